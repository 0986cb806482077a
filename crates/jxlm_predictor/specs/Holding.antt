-- What the properties of a cell hold.
use Rattle.std.specs.Prelude.{◌≡◌, ◌<◌, ℕ, ℤ, pos, List, map, Option, slice_index_or}
use Rattle.jxlm_base.specs.Grid.{Grid}
use Rattle.jxlm_base.specs.Regions.{grid_of, store_meanings}
use Rattle.jxlm_weighted.specs.Around.{neighbours_of}
use Rattle.jxlm_weighted.specs.Correcting.{IsMade}
use Rattle.jxlm_predictor.specs.EarlierRows.{HoldRows}
use Rattle.jxlm_weighted.specs.Neighbours.{neighbours}
use Rattle.jxlm_predictor.specs.Properties.{Surroundings, place_property}
use Rattle.jxlm_predictor.specs.Standing.{Setting, StandsAt, IsReady}
use Rattle.jxlm_predictor.specs.declared.earlier.EarlierRow.{EarlierRow}
use Rattle.jxlm_weighted.specs.declared.weights.WpHeader.{WpHeader}
use Rattle.jxlm_predictor.specs.declared.properties.Properties.{Properties}
use Rattle.jxlm_predictor.specs.declared.state.PredictorState.{PredictorState}

-- what the properties look at where a state was set so, after these samples; the store is one of whole numbers
abbrev pub surroundings : Setting → List (Grid ℤ) → List ℤ → Surroundings
surroundings s store samples = record { weights = s.weights; width = s.width; samples = samples; earlier = map (grid_of store) s.earlier }

module _ {S : Type 0} where
  -- the state that properties hold, and the store that they look at
  abbrev pub state_of : Properties S → PredictorState S
  state_of p = p.state.now

  abbrev pub store_of : Properties S → List (Grid S)
  store_of p = p.store.now

  -- the rows of the nearest earlier channels that it was handed
  abbrev pub rows_of : Properties S → List (EarlierRow S)
  rows_of p = p.rows.now

  -- the value is what f makes of the weights, the samples and the width, whatever cell the state is at
  abbrev pub IsOfPlace : Properties S → (Option WpHeader → List ℤ → ℕ → ℤ) → ℤ → Type 0
  IsOfPlace p f value = (s : Setting) (samples : List ℤ) → StandsAt (state_of p) s samples → value ≡ f s.weights samples s.width

  -- They are the properties of the cell that the state is at, whichever that is.
  pub record IsCurrent (p : Properties S) : Type 0 where
    pub ready : IsReady (state_of p) (store_of p)
    pub around_is : (s : Setting) (samples : List ℤ) → StandsAt (state_of p) s samples → neighbours_of p.around ≡ neighbours samples s.width
    pub correction_is : (s : Setting) (samples : List ℤ) → StandsAt (state_of p) s samples → IsMade p.correction s.weights s.width samples
    pub rows_are : HoldRows (state_of p) (store_of p) (rows_of p)

  -- these are properties 0 to 15 of that cell
  abbrev pub AreOwn : (S → ℤ) → Properties S → List ℤ → Type 0
  AreOwn to_int p own = (s : Setting) (samples : List ℤ) (k : ℕ) → StandsAt (state_of p) s samples → k < 16 →
      slice_index_or own k (pos 0) ≡ place_property (surroundings s (store_meanings to_int (store_of p)) samples) k

  -- the properties are those of that cell, and so are those that are listed
  pub record IsListed (to_int : S → ℤ) (p : Properties S) (own : List ℤ) : Type 0 where
    pub current : IsCurrent p
    pub own_are : AreOwn to_int p own
