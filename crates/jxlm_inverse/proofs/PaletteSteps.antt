-- The steps of a palette's inverse: one sample more.
use Rattle.std.proofs.Common.{◌≡◌, inl, inr, ℕ, suc, ◌+◌, ◌*◌, ◌/◌, ◌^◌, ◌<◌, ◌≤◌, List, [], ◌∷◌, ◌++◌, length, sym, refl, ap, ◌∙◌, subst, arith, ℤ, pos, negsuc, ◌+ℤ◌}
use Rattle.std.specs.Prelude.{get_or, take, slice_set, unsigned_abs, if◌then◌else◌, int_lt}
use Rattle.std.specs.Int.{Width, int_wrap}
use Rattle.std.proofs.lemmas.Bool.Decides.{nat_tests}
use Rattle.std.proofs.lemmas.List.{take_more_set, get_or-set_other, length-append}
use Rattle.std.proofs.lemmas.Nat.{mul-add-lt, div_below}
use Rattle.std.proofs.Math.Nat.{mul_comm}
use Rattle.jxlm_base.specs.Grid.{Grid, at}
use Rattle.jxlm_base.specs.Regions.{grid_of, store_meanings, with_region_cell}
use Rattle.jxlm_base.specs.declared.subgrid.Region.{Region}
use Rattle.jxlm_base.specs.Outside.{KeepsOutside}
use Rattle.jxlm_base.proofs.Regions.{grid_of_set, grid_of_set_apart, IsFull-grid_of}
use Rattle.jxlm_base.proofs.Outside.{keeps_written, lies_still}
use Rattle.jxlm_predictor.specs.Standing.{StandsAt, setting, IsReady, HasSameRoom}
use Rattle.jxlm_predictor.specs.declared.state.PredictorState.{PredictorState}
use Rattle.jxlm_transform.specs.declared.transform.Palette.{Palette}
use Rattle.jxlm_inverse.specs.declared.palette.FinishedChannel.{FinishedChannel}
use Rattle.jxlm_inverse.proofs.PaletteLaws.{is_finished}
use Rattle.jxlm_predictor.specs.Predictions.{prediction}
use Rattle.jxlm_inverse.specs.Palette.{finished_channel, finished_sample, finished_samples, colour_index, colour_of}
use Rattle.jxlm_inverse.specs.Inner.PaletteSteps.{ChannelLies, SetsSample, StillToCome, Filled, FillsOn, FillsOnBy, IsSimpleIndex, StandsBefore, kept, looked_up, table_in, index_in}

-- ---- indices of the table that are no deltas

pub simple_place : (t : Palette) (i : ℤ) → IsSimpleIndex t i → unsigned_abs i < t.nb_colours
simple_place t (pos i) h = h.1
simple_place t (negsuc k) h = absurd h

-- the finished sample of such an index is the one in the table, whatever is before it
pub simple_sample : (w : Width) (depth : ℕ) (t : Palette) (table : Grid ℤ) (i : ℤ) (c : ℕ) (before : List ℤ) (width : ℕ) → IsSimpleIndex t i →
    finished_sample w depth t table i c before width ≡ int_wrap w (looked_up table i c)
unfolding finished_sample colour_index colour_of
simple_sample w depth t table (pos i) c before width h =
    let deltas = h.0 in
    let colours = h.1 in
    ap (int_wrap w) (grind (arith, nat_tests))
simple_sample w depth t table (negsuc k) c before width h = absurd h

-- ---- one sample more

module _ {S : Type 0} (to_int : S → ℤ) (t : Palette) (p : FinishedChannel) (old : List (Grid S)) (lies : ChannelLies t p old) (x y k : ℕ) (px : x < p.index.width) (py : y < p.index.height) (is : k ≡ y * p.index.width + x) (s : S) where
  abbrev after : List (Grid S)
  after = with_region_cell old p.target x y s

  abbrev cells_of : List (Grid S) → Region → List ℤ
  cells_of store r = (grid_of (store_meanings to_int store) r).cells

  column : x < p.target.width
  column = let w = lies.same_width in omega arith

  in_rows : y < p.target.height
  in_rows = let h = lies.same_height in omega arith

  cells_set : cells_of after p.target ≡ slice_set (cells_of old p.target) k (to_int s)
  cells_set =
      let w = lies.same_width in
      let place : y * p.target.width + x ≡ k = ap (λ n. y * n + x) w ∙ sym is in
      ap (λ (g : Grid ℤ). g.cells) (grid_of_set to_int old p.target x y s lies.target_lies column in_rows)
      ∙ ap (λ n. slice_set (cells_of old p.target) n (to_int s)) place

  within : k < length (cells_of old p.target)
  within =
      let full = IsFull-grid_of (store_meanings to_int old) p.target in
      let there : y * p.target.width + x < p.target.width * p.target.height = mul-add-lt y p.target.width x p.target.height in_rows column in
      let place : y * p.target.width + x ≡ k = ap (λ n. y * n + x) lies.same_width ∙ sym is in
      omega (arith, full, there, place)

  table_kept : grid_of (store_meanings to_int after) p.table ≡ grid_of (store_meanings to_int old) p.table
  table_kept = grid_of_set_apart to_int old p.target p.table x y s lies.target_lies lies.table_lies lies.table_apart column in_rows

  indices_kept : (i : ℕ) → k < i → get_or (cells_of after p.index) i (pos 0) ≡ get_or (cells_of old p.index) i (pos 0)
  indices_kept i l =
      elim lies.index_apart [
        | inl same ↦
            subst (λ r. get_or (cells_of after r) i (pos 0) ≡ get_or (cells_of old r) i (pos 0)) (sym same)
            (ap (λ xs. get_or xs i (pos 0)) cells_set ∙ get_or-set_other (cells_of old p.target) k i (to_int s) (pos 0) (λ e. absurd (omega arith)))
        | inr apart ↦
            ap (λ (g : Grid ℤ). get_or g.cells i (pos 0)) (grid_of_set_apart to_int old p.target p.index x y s lies.target_lies lies.index_lies apart column in_rows)
      ]

  ahead_set : (table index : Grid ℤ) → StillToCome p k table index (store_meanings to_int old) → StillToCome p (k + 1) table index (store_meanings to_int after)
  ahead_set table index a = record {
    table_is = table_kept ∙ a.table_is;
    indices = λ i l. indices_kept i (omega arith) ∙ a.indices i (omega arith);
  }

  filled_set : (w : Width) (depth : ℕ) (table index : Grid ℤ) → Filled w depth t p table index k (store_meanings to_int old) →
      to_int s ≡ finished_sample w depth t table (get_or index.cells k (pos 0)) p.number (finished_samples w depth t table index p.number k) index.width →
      Filled w depth t p table index (k + 1) (store_meanings to_int after)
  filled_set w depth table index f e =
      let fs : ℕ → List ℤ = finished_samples w depth t table index p.number in
      let more : suc k ≡ k + 1 = omega arith in
      record {
        samples = ap (take (k + 1)) cells_set ∙ take_more_set (cells_of old p.target) k (to_int s) within
            ∙ ap (λ xs. xs ++ to_int s ∷ []) f.samples ∙ ap (λ z. fs k ++ z ∷ []) e ∙ ap fs more;
        later_cells = ahead_set table index f.later_cells;
        as_wide = f.as_wide;
      }

  keeps_set : KeepsOutside (p.target ∷ []) old after
  keeps_set = keeps_written old p.target x y s lies.target_lies column in_rows

module _ {S : Type 0} (to_int : S → ℤ) (t : Palette) (p : FinishedChannel) where
  -- the channel's regions lie where they lay
  pub channel_lies_still : (old new : List (Grid S)) → KeepsOutside (p.target ∷ []) old new → ChannelLies t p old → ChannelLies t p new
  channel_lies_still old new k lies = record {
    table_lies = lies_still (p.target ∷ []) old new p.table k lies.table_lies;
    index_lies = lies_still (p.target ∷ []) old new p.index k lies.index_lies;
    target_lies = lies_still (p.target ∷ []) old new p.target k lies.target_lies;
    columns = lies.columns;
    row = lies.row;
    same_width = lies.same_width;
    same_height = lies.same_height;
    table_apart = lies.table_apart;
    index_apart = lies.index_apart;
  }

  module _ (old new : List (Grid S)) (x y : ℕ) (z : ℤ) (lies : ChannelLies t p old) (px : x < p.index.width) (py : y < p.index.height) (sets : SetsSample to_int p x y z old new) where
    pub cell_keeps : KeepsOutside (p.target ∷ []) old new
    cell_keeps = subst (λ n. KeepsOutside (p.target ∷ []) old n) (sym sets.written) (keeps_set to_int t p old lies x y (y * p.index.width + x) px py refl sets.sample)

    pub cell_filled : (w : Width) (depth k k' : ℕ) (table index : Grid ℤ) → k ≡ y * p.index.width + x → k' ≡ k + 1 → Filled w depth t p table index k (store_meanings to_int old) →
        z ≡ finished_sample w depth t table (get_or index.cells k (pos 0)) p.number (finished_samples w depth t table index p.number k) index.width →
        Filled w depth t p table index k' (store_meanings to_int new)
    cell_filled w depth k k' table index is next f e =
        subst (λ n. Filled w depth t p table index n (store_meanings to_int new)) (sym next)
        (subst (λ n. Filled w depth t p table index (k + 1) (store_meanings to_int n)) (sym sets.written)
        (filled_set to_int t p old lies x y k px py is sets.sample w depth table index f (sets.sample_is ∙ e)))

  -- what is in a cell of the table and of the indices, where they are as they were
  pub index_at : (ints : List (Grid ℤ)) (k x y : ℕ) (table index : Grid ℤ) → StillToCome p k table index ints → k ≡ y * p.index.width + x → at (index_in p ints) x y ≡ get_or index.cells k (pos 0)
  index_at ints k x y table index a is = ap (λ n. get_or (index_in p ints).cells n (pos 0)) (sym is) ∙ a.indices k (omega arith)

  -- one index of a row later than another is as before
  pub later_index : (ints : List (Grid ℤ)) (k x y : ℕ) (table index : Grid ℤ) → StillToCome p k table index ints → index.width ≡ p.index.width → k ≤ y * p.index.width + x → at (index_in p ints) x y ≡ at index x y
  later_index ints k x y table index a wide l = a.indices (y * p.index.width + x) l ∙ ap (λ n. get_or index.cells (y * n + x) (pos 0)) (sym wide)

  -- nothing is finished at first
  pub nothing_filled : (w : Width) (depth : ℕ) (ints : List (Grid ℤ)) → Filled w depth t p (table_in p ints) (index_in p ints) 0 ints
  nothing_filled w depth ints = record { samples = refl; later_cells = record { table_is = refl; indices = λ i l. refl }; as_wide = refl }

  pub ahead_both : (a b c : List (Grid ℤ)) (k k' : ℕ) → k ≤ k' → kept p k a b → kept p k' b c → kept p k' a c
  ahead_both a b c k k' l f g = record {
    table_is = g.table_is ∙ f.table_is;
    indices = λ i h. g.indices i h ∙ f.indices i (omega arith);
  }

-- ---- a sample by prediction

module _ {S : Type 0} (to_int : S → ℤ) (t : Palette) (p : FinishedChannel) (w : Width) (depth : ℕ) (old new : List (Grid S)) (state state' : PredictorState S) (x y : ℕ) (lies : ChannelLies t p old) (px : x < p.index.width) (py : y < p.index.height) where
  abbrev ints : List (Grid ℤ)
  ints = store_meanings to_int old

  abbrev sample_after : List ℤ → ℤ
  sample_after before = finished_sample w depth t (table_in p ints) (at (index_in p ints) x y) p.number before p.index.width

  pub predicted_fills : (k k' : ℕ) → k ≡ y * p.index.width + x → k' ≡ k + 1 →
      ((before : List ℤ) → StandsAt state (setting p.index.width t.wp_header []) before →
      SetsSample to_int p x y (finished_sample w depth t (table_in p (store_meanings to_int old)) (at (index_in p (store_meanings to_int old)) x y) p.number before p.index.width) old new
      × StandsAt state' (setting p.index.width t.wp_header []) (before ++ finished_sample w depth t (table_in p (store_meanings to_int old)) (at (index_in p (store_meanings to_int old)) x y) p.number before p.index.width ∷ [])) →
      FillsOnBy w depth t p k k' (store_meanings to_int old) state (store_meanings to_int new) state'
  predicted_fills k k' is next step table index f stands =
      let fs : ℕ → List ℤ = finished_samples w depth t table index p.number in
      let there : at (index_in p ints) x y ≡ get_or index.cells k (pos 0) = index_at to_int t p ints k x y table index f.later_cells is in
      let value : sample_after (fs k) ≡ finished_sample w depth t table (get_or index.cells k (pos 0)) p.number (fs k) index.width =
      ap (λ (g : Grid ℤ). finished_sample w depth t g (at (index_in p ints) x y) p.number (fs k) p.index.width) f.later_cells.table_is
      ∙ ap (λ j. finished_sample w depth t table j p.number (fs k) p.index.width) there
      ∙ ap (λ n. finished_sample w depth t table (get_or index.cells k (pos 0)) p.number (fs k) n) (sym f.as_wide) in
      let done = step (fs k) stands in
      let more : suc k ≡ k' = omega arith in (
        cell_filled to_int t p old new x y _ lies px py done.0 w depth k k' table index is next f value,
        subst (StandsAt state' (setting p.index.width t.wp_header [])) (ap (λ z. fs k ++ z ∷ []) value ∙ ap fs more) done.1,
      )

-- ---- rows and channels

module _ (w : Width) (depth : ℕ) (t : Palette) (p : FinishedChannel) (old new : List (Grid ℤ)) where
  -- the same, where the last number is another but equal one
  pub fills_between : (from to to' : ℕ) → FillsOn w depth t p from to old new → to ≡ to' → FillsOn w depth t p from to' old new
  fills_between from to to' f same table index before = subst (λ n. Filled w depth t p table index n new) same (f table index before)

  pub fills_by_between : {S : Type 0} (from to to' : ℕ) (state state' : PredictorState S) → FillsOnBy w depth t p from to old state new state' → to ≡ to' → FillsOnBy w depth t p from to' old state new state'
  fills_by_between from to to' state state' f same table index before stands =
      let done = f table index before stands in (
        subst (λ n. Filled w depth t p table index n new) same done.0,
        subst (λ n. StandsAt state' (setting p.index.width t.wp_header []) (finished_samples w depth t table index p.number n)) same done.1,
      )

module _ {S : Type 0} (to_int : S → ℤ) (t : Palette) (p : FinishedChannel) (w : Width) (depth : ℕ) (old new : List (Grid S)) (lies : ChannelLies t p old) where
  -- a channel whose samples are all finished
  pub channel_finished : (k : ℕ) → k ≡ p.index.height * p.index.width → Filled w depth t p (table_in p (store_meanings to_int old)) (index_in p (store_meanings to_int old)) k (store_meanings to_int new) →
      grid_of (store_meanings to_int new) p.target ≡ finished_channel w depth t (table_in p (store_meanings to_int old)) (index_in p (store_meanings to_int old)) p.number
  channel_finished k is f =
      let table : Grid ℤ = table_in p (store_meanings to_int old) in
      let index : Grid ℤ = index_in p (store_meanings to_int old) in
      let g : Grid ℤ = grid_of (store_meanings to_int new) p.target in
      let all : k ≡ p.index.width * p.index.height = omega (arith, is, mul_comm p.index.height p.index.width) in
      is_finished w depth t table index p.number g (record { same_width = lies.same_width; same_height = lies.same_height; full = IsFull-grid_of (store_meanings to_int new) p.target })
      (subst (λ n. take n g.cells ≡ finished_samples w depth t table index p.number n) all f.samples)

-- ---- the state

pub same_room_on : {S : Type 0} (a b c : PredictorState S) → HasSameRoom a b → HasSameRoom b c → HasSameRoom a c
same_room_on a b c h k = record {
  same_room = k.same_room ∙ h.same_room;
  same_earlier_room = k.same_earlier_room ∙ h.same_earlier_room;
  same_weights = k.same_weights ∙ h.same_weights;
}

module _ {S : Type 0} (t : Palette) (width k k' : ℕ) (state state' : PredictorState S) (stands : StandsBefore t width k state) (next : k' ≡ k + 1) where
  pub stands_further : (z : ℤ) → StandsAt state' (setting width t.wp_header []) (stands.before ++ z ∷ []) → StandsBefore t width k' state'
  stands_further z h = record {
    before = stands.before ++ z ∷ [];
    count = length-append stands.before (z ∷ []) ∙ (let n = stands.count in omega arith);
    stands = h;
  }

-- a state after k samples of a channel is ready in any store
pub is_ready : {S : Type 0} (t : Palette) (width height x y : ℕ) (state : PredictorState S) (store : List (Grid S)) → StandsBefore t width (y * width + x) state → x < width → y < height → height ≤ 2 ^ 30 →
    IsReady state store
is_ready t width height x y state store stands px py few =
    let there : y * width + x < width * height = mul-add-lt y width x height py px in
    let below : length stands.before < height * width = (let n = stands.count in let m = mul_comm width height in omega (arith, m)) in
    let some : 0 < width = omega arith in
    let row : length stands.before / width < height = div_below (length stands.before) width height some below in
    record {
      where_set = setting width t.wp_header [];
      before = stands.before;
      stands = stands.stands;
      few_rows = omega arith;
      earlier_hold = λ i d h. absurd (omega arith);
    }

-- ---- values

-- the finished sample of an index of this colour
pub finished_is : (w : Width) (depth : ℕ) (t : Palette) (table : Grid ℤ) (i j : ℤ) (c : ℕ) (before : List ℤ) (width : ℕ) (colour : ℤ) → j ≡ colour_index t i → colour ≡ colour_of depth t table j c →
    int_wrap w (if int_lt j (pos t.nb_deltas) then colour +ℤ prediction t.wp_header before width t.d_pred else colour) ≡ finished_sample w depth t table i c before width
unfolding finished_sample
finished_is w depth t table i j c before width colour f e =
    ap (λ z. int_wrap w (if int_lt j (pos t.nb_deltas) then z +ℤ prediction t.wp_header before width t.d_pred else z)) e
    ∙ ap (λ k. int_wrap w (if int_lt k (pos t.nb_deltas) then colour_of depth t table k c +ℤ prediction t.wp_header before width t.d_pred else colour_of depth t table k c)) f
