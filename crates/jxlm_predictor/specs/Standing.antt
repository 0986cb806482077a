-- Which cell a predictor's state is at.
use Rattle.std.specs.Prelude.{◌≡◌, ℕ, ◌+◌, ◌^◌, ◌<◌, ◌≤◌, ℤ, List, reverse, Option, All, vec_len, vec_capacity}
use Rattle.jxlm_base.specs.Grid.{Grid}
use Rattle.jxlm_base.specs.Regions.{Lies}
use Rattle.jxlm_base.specs.declared.subgrid.Region.{Region}
use Rattle.jxlm_weighted.specs.Correcting.{Corrects, header_of, header_of_either}
use Rattle.jxlm_weighted.specs.Neighbours.{row}
use Rattle.jxlm_predictor.specs.Rolling.{Rolls}
use Rattle.jxlm_predictor.specs.declared.state.PredictorState.{PredictorState}
use Rattle.jxlm_weighted.specs.declared.weights.WpHeader.{WpHeader}

-- What a state is reset for: a channel's width, the weights if there are any, the regions of the earlier channels, the
-- nearest first.
pub record Setting : Type 0 where
  pub width : ℕ
  pub weights : Option WpHeader
  pub earlier : List Region

abbrev pub setting : ℕ → Option WpHeader → List Region → Setting
setting w h e = record { width = w; weights = h; earlier = e }

-- the regions of the state's earlier channels, the nearest first
abbrev pub HasEarlier : {S : Type 0} → PredictorState S → List Region → Type 0
HasEarlier state earlier = state.earlier.items ≡ reverse earlier

-- the state is the one after these samples of a channel, in row order
pub record StandsAt {S : Type 0} (state : PredictorState S) (s : Setting) (samples : List ℤ) : Type 0 where
  pub same_width : state.width ≡ s.width
  pub same_earlier : HasEarlier state s.earlier
  pub rolls : Rolls s.width state.x state.y state.w state.n state.nw state.gradient state.previous.items state.current.items samples
  pub corrects : Corrects state.corrector s.weights s.width state.x state.y samples

-- the state is at some cell
pub record Stands {S : Type 0} (state : PredictorState S) : Type 0 where
  pub where_set : Setting
  pub before : List ℤ
  pub stands : StandsAt state where_set before

-- a region lies in the store, is as wide as the channel and holds the row
pub record HoldsRow {S : Type 0} (r : Region) (store : List (Grid S)) (width y : ℕ) : Type 0 where
  pub lies : Lies r store
  pub as_wide : r.width ≡ width
  pub below : y < r.height

-- the state is at some cell, in one of the first 2 ^ 30 rows, each of which the regions of the earlier channels hold
pub record IsReady {S : Type 0} (state : PredictorState S) (store : List (Grid S)) : Type 0 where
  pub where_set : Setting
  pub before : List ℤ
  pub stands : StandsAt state where_set before
  pub few_rows : row before where_set.width < 2 ^ 30
  pub earlier_hold : All (λ r. HoldsRow r store where_set.width (row before where_set.width)) where_set.earlier

-- the column and the row of the state's cell, and the channel's width
module _ {S : Type 0} where
  abbrev pub column_of : PredictorState S → ℕ
  column_of state = state.x

  abbrev pub row_of : PredictorState S → ℕ
  row_of state = state.y

  abbrev pub width_of : PredictorState S → ℕ
  width_of state = state.width

  -- up to which width there is memory for channels
  abbrev pub room_of : PredictorState S → ℕ
  room_of state = state.room

  -- how many earlier channels there are, and for how many there is memory
  abbrev pub earlier_count : PredictorState S → ℕ
  earlier_count state = vec_len state.earlier

  -- their regions, the nearest first
  abbrev pub earlier_held : PredictorState S → List Region
  earlier_held state = reverse state.earlier.items

  abbrev pub earlier_room_of : PredictorState S → ℕ
  earlier_room_of state = vec_capacity state.earlier

  -- the weights that are used in this channel, if any are
  abbrev pub used_weights : PredictorState S → Option WpHeader
  used_weights state = header_of state.corrector

  -- the weights, if there are any: those that are used, or those that are kept for a later channel
  abbrev pub weights_of : PredictorState S → Option WpHeader
  weights_of state = header_of_either state.corrector state.resting

  -- there is as much memory in both, and the weights are the same
  pub record HasSameRoom (old new : PredictorState S) : Type 0 where
    pub same_room : room_of new ≡ room_of old
    pub same_earlier_room : earlier_room_of new ≡ earlier_room_of old
    pub same_weights : weights_of new ≡ weights_of old

  -- the cell is two or more columns and rows away from every edge but the last row
  pub record IsInner (state : PredictorState S) : Type 0 where
    pub rows_above : 2 ≤ row_of state
    pub columns_left : 2 ≤ column_of state
    pub columns_right : column_of state + 2 < width_of state
