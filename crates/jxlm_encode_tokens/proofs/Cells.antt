-- A cell of a channel: its sample, what is before it, and where the state is.
use Rattle.std.proofs.Common.{◌≡◌, ℕ, zero, suc, ◌+◌, ◌*◌, ◌/◌, ◌<◌, ◌≤◌, ◌^◌, List, [], ◌∷◌, ◌++◌, length, take, get_or, Bool, true, false, None, Some, refl, sym, ap, ◌∙◌, subst, arith, ℤ, pos}
use Rattle.std.specs.List.{All}
use Rattle.std.specs.Int.{Width}
use Rattle.std.specs.Prelude.{slice_get, if◌then◌else◌, map}
use Rattle.std.proofs.lemmas.List.{get_or-drop, get_or_append_left, length-take-le, take_more}
use Rattle.std.proofs.lemmas.List.Elements.{All-nil}
use Rattle.std.proofs.lemmas.Nat.{div-mul-add, mul-add-lt}
use Rattle.std.proofs.lemmas.Option.{get_or_from_slice_get}
use Rattle.jxlm_base.specs.Grid.{Grid}
use Rattle.jxlm_base.specs.Regions.{AllLie, grid_of, grids_in, region, region_cell, store_meanings}
use Rattle.jxlm_base.specs.declared.subgrid.Region.{Region}
use Rattle.jxlm_base.proofs.Outside.{number_of_row}
use Rattle.jxlm_base.proofs.Regions.{IsFull-grid_of, cell-grid_of, cell-grid_of_read}
use Rattle.jxlm_tree.specs.FlatTree.{FlatTree, GoesWithoutWeights, ReadsEarlierBelow, leaf_reached}
use Rattle.jxlm_ma_tree.specs.declared.leaf.Leaf.{Leaf}
use Rattle.jxlm_transform.specs.Channels.{AreGridsOf, area}
use Rattle.jxlm_predictor.specs.EarlierRows.{AreRowsOf, HoldRows}
use Rattle.jxlm_predictor.specs.Holding.{surroundings}
use Rattle.jxlm_weighted.specs.Neighbours.{row as line}
use Rattle.jxlm_predictor.specs.Predictions.{prediction}
use Rattle.jxlm_predictor.specs.Standing.{HasSameRoom, HoldsRow, IsInner, IsReady, Setting, StandsAt, row_of, setting}
use Rattle.jxlm_predictor.specs.declared.earlier.EarlierRow.{EarlierRow}
use Rattle.jxlm_predictor.specs.declared.state.PredictorState.{PredictorState}
use Rattle.jxlm_predictor.proofs.EarlierLaws.{in_state, of_setting}
use Rattle.jxlm_predictor.proofs.StandingLaws.{stands_row}
use Rattle.jxlm_samples.specs.Coded.{next_prediction}
use Rattle.jxlm_samples.specs.ChannelSettings.{StandsAfter, asked_at, earlier_for, region_at, setting_of, weighted_at}
use Rattle.jxlm_samples.specs.Part.{clamps, place_by, SeesBefore, cells_before, cells_of, channel, earlier_alike, grid as grid_at}
use Rattle.jxlm_samples.specs.Reading.{IsCodingOf, part_of, regions_of, tree_of}
use Rattle.jxlm_samples.specs.declared.coding.ChannelTree.{ChannelTree}
use Rattle.jxlm_samples.specs.declared.coding.PartCoding.{PartCoding}
use Rattle.jxlm_samples.proofs.CellLaws.{asked_is, narrow_at, tree_at, weighted_is}
use Rattle.jxlm_samples.proofs.Earlier.{earlier_all, same_sides}
use Rattle.jxlm_samples.proofs.Loops.{fits_in, grid_in, same_count, same_size}
use Rattle.jxlm_samples.proofs.NextSample.{IsNext, SeesRegions, is_next}
use Rattle.jxlm_samples.proofs.Places.{each_sees_before, split}
use Rattle.jxlm_encode_tokens.specs.Inner.Walks.{AreRowTokens, HasRow, IsNextToken}
use Rattle.jxlm_encode_tokens.specs.Inner.Forms.{Form, IsCellToken, IsLeafToken}

-- what holds of all earlier channels holds of those that are given to the state
all_handed : {X : Type 0} (n : ℕ) (P : X → Type 0) (xs : List X) → All P xs → All P (earlier_for n xs)
all_handed zero P xs h = All-nil P
all_handed (suc n) P xs h = h

-- what was read of row y of a region is the row of the channel that lies there
pub row_of_region : {D X : Type 0} (c : PartCoding D) (store : List (Grid X)) (i y : ℕ) (r : Region) (row : List X) → r ≡ region_at (regions_of c) i → y < (region_at (regions_of c) i).height →
    length row ≡ r.width → ((x : ℕ) → x < r.width → region_cell store r x y ≡ slice_get row x) → HasRow c store i y row
row_of_region c store i y r row is below long cells = record {
  below = below;
  long = long ∙ ap (λ (q : Region). q.width) is;
  cells = subst (λ (q : Region). (x : ℕ) → x < q.width → region_cell store q x y ≡ slice_get row x) is cells;
}

module _ {D : Type 0} (c : PartCoding D) (coding : IsCodingOf c) (i : ℕ) (li : i < length (regions_of c)) where
  abbrev reg : Region
  reg = region_at (regions_of c) i

  -- a channel tree, any of them
  any_tree : ChannelTree
  any_tree = record { flat = tree_of c i; weighted = true; asked = 0; alone = None; sets = None }

  reads_below : ReadsEarlierBelow (tree_of c i) (asked_at c i)
  reads_below = subst (ReadsEarlierBelow (tree_of c i)) (sym (asked_is c coding i li any_tree)) (tree_at c coding i li any_tree).below

  goes_without : weighted_at c i ≡ false → GoesWithoutWeights (tree_of c i)
  goes_without none = (tree_at c coding i li any_tree).without (sym (weighted_is c coding i li any_tree) ∙ none)

  there : i < length (part_of c).channels
  there = let count = same_count (part_of c).channels (regions_of c) coding.sizes in omega (arith, count, li)

  sides : (reg.width ≡ (channel (part_of c).channels i).width) × (reg.height ≡ (channel (part_of c).channels i).height)
  sides = same_size (part_of c).channels (regions_of c) i coding.sizes li

  in_channel : (j : ℕ) → j < reg.width * reg.height → j < area (channel (part_of c).channels i)
  in_channel j h = subst (λ n. j < n) (ap (λ n. n * reg.height) sides.0 ∙ ap (λ n. (channel (part_of c).channels i).width * n) sides.1) h

  module _ {X : Type 0} (to_int : X → ℤ) (store : List (Grid X)) where
    abbrev ints : List (Grid ℤ)
    ints = store_meanings to_int store

    abbrev own : List ℤ
    own = (grid_of ints reg).cells

    abbrev all : List ℤ
    all = cells_of (grids_in (regions_of c) ints)

    abbrev first : ℕ
    first = cells_before (part_of c).channels i

    fit : AreGridsOf (part_of c).channels (grids_in (regions_of c) ints)
    fit = fits_in (part_of c).channels (regions_of c) ints coding.sizes

    module _ (j : ℕ) (within : j < reg.width * reg.height) where
      sees_part : SeesBefore (part_of c).channels (grids_in (regions_of c) ints) i j (take (first + j) all)
      sees_part = each_sees_before (part_of c).channels (grids_in (regions_of c) ints) i j fit there (in_channel j within)

      pub sees : SeesRegions (part_of c) (regions_of c) ints i (take (first + j) all) (take j own)
      sees = record {
        wide = sides.0;
        stands = sees_part.stands;
        own_is = sees_part.own ∙ ap (λ (g : Grid ℤ). take j g.cells) (grid_in ints (regions_of c) i li);
        earlier_is = λ e less. sees_part.earlier e less ∙ grid_in ints (regions_of c) e (omega (arith, less, li));
      }

      -- the leaf and the prediction of the cell are those to which its channel's flat tree leads
      next_by : (n : ℕ) → ReadsEarlierBelow (tree_of c i) n → (used : Bool) → (used ≡ false → GoesWithoutWeights (tree_of c i)) →
          IsNext (part_of c) (regions_of c) ints i (take (first + j) all) (take j own) sees
          (setting reg.width (if used then Some c.weights else None) (earlier_for n (map (region_at (regions_of c)) (earlier_alike (part_of c).channels i))))
      next_by zero below used without = is_next (part_of c) (regions_of c) ints i (take (first + j) all) (take j own) sees zero below used without
      next_by (suc n) below used without = is_next (part_of c) (regions_of c) ints i (take (first + j) all) (take j own) sees (suc n) below used without

      next : IsNext (part_of c) (regions_of c) ints i (take (first + j) all) (take j own) sees (setting_of c i)
      next = next_by (asked_at c i) reads_below (weighted_at c i) goes_without

      -- the cell is the one of its channel
      pub cell_is : get_or all (first + j) (pos 0) ≡ get_or own j (pos 0)
      cell_is =
          let s = split (part_of c).channels (grids_in (regions_of c) ints) i fit there in
          let long = s.long in
          let g : Grid ℤ = grid_at (grids_in (regions_of c) ints) i in
          sym (get_or-drop first all j (pos 0)) ∙ ap (λ xs. get_or xs j (pos 0)) s.from
          ∙ get_or_append_left g.cells s.rest (pos 0) j (omega (arith, long, in_channel j within))
          ∙ ap (λ (h : Grid ℤ). get_or h.cells j (pos 0)) (grid_in ints (regions_of c) i li)

      -- the leaf and the prediction there
      abbrev reached : Leaf
      reached = leaf_reached (tree_of c i) (place_by (clamps (part_of c) i) (surroundings (setting_of c i) ints (take j own)))

      abbrev predicted : ℤ
      predicted = prediction (setting_of c i).weights (take j own) (setting_of c i).width reached.predictor

      -- so is its token
      pub token_is : {T : Type 0} (form : Form T) (w : Width) (flat : FlatTree) (sample : ℤ) (token : T) → flat ≡ tree_of c i → sample ≡ get_or own j (pos 0) →
          IsNextToken form (clamps (part_of c) i) flat w ints (setting_of c i) (take j own) sample token → IsCellToken form w (part_of c) all (first + j) token
      token_is form w flat sample token same is h =
          let here : IsLeafToken form w reached predicted sample token = subst (λ f. IsNextToken form (clamps (part_of c) i) f w ints (setting_of c i) (take j own) sample token) same h in
          let of_cell = subst (λ z. IsLeafToken form w reached predicted z token) (is ∙ sym cell_is) here in
          let over = subst (λ z. IsLeafToken form w reached z (get_or all (first + j) (pos 0)) token) next.predicted_is of_cell in
          subst (λ (l : Leaf). IsLeafToken form w l (next_prediction (part_of c) (take (first + j) all)) (get_or all (first + j) (pos 0)) token) next.leaf_is over

    -- the cell in column x of row y
    module _ (x y : ℕ) (px : x < reg.width) (qy : y < reg.height) where
      abbrev j : ℕ
      j = y * reg.width + x

      pub within_at : j < reg.width * reg.height
      within_at = mul-add-lt y reg.width x reg.height qy px

      pub own_long : length (take j own) ≡ j
      own_long = let full = IsFull-grid_of ints reg in length-take-le j own (omega (arith, full, within_at))

      line_is : line (take j own) reg.width ≡ y
      line_is = ap (λ n. n / reg.width) own_long ∙ div-mul-add y reg.width x px

      -- the sample of the cell
      pub value_is : (row : List X) (d : X) → HasRow c store i y row → to_int (get_or row x d) ≡ get_or own j (pos 0)
      value_is row d has =
          let long = has.long in
          let found : region_cell store reg x y ≡ Some (get_or row x d) = has.cells x px ∙ found_at row x d (omega (arith, long, px)) in
          sym (get_or_from_slice_get own j (to_int (get_or row x d)) (pos 0) (cell-grid_of_read to_int store reg x y (get_or row x d) px qy found)) where
            found_at : (xs : List X) (k : ℕ) (d : X) → k < length xs → slice_get xs k ≡ Some (get_or xs k d)
            found_at [] k d l = absurd (omega (arith, l))
            found_at (v ∷ xs) zero d l = refl
            found_at (v ∷ xs) (suc k) d l = found_at xs k d (omega (arith, l))

      -- the same, as a number of the row
      pub number_is : (row : List X) → HasRow c store i y row → get_or (map to_int row) x (pos 0) ≡ get_or own j (pos 0)
      number_is row has =
          sym (get_or_from_slice_get own j (get_or (map to_int row) x (pos 0)) (pos 0) (cell-grid_of ints reg x y px qy ∙ ap Some (number_of_row to_int store reg x y row (has.cells x px))))

      -- the cells up to it are those before it, and it
      pub own_more : (sample : ℤ) → sample ≡ get_or own j (pos 0) → take j own ++ sample ∷ [] ≡ take (y * reg.width + (x + 1)) own
      own_more sample is =
          let full = IsFull-grid_of ints reg in
          let n : j + 1 ≡ y * reg.width + (x + 1) = omega arith in
          ap (λ z. take j own ++ z ∷ []) is ∙ sym (take_more own j (pos 0) (omega (arith, full, within_at))) ∙ ap (λ k. take k own) n

      module _ (state : PredictorState X) (stands : StandsAfter c to_int store i j state) where
        -- the state is as far from the edges as the cell
        pub is_inner : (2 ≤ y) × (2 ≤ x) × (x + 2 < reg.width) → IsInner state
        is_inner away =
            let place : j ≡ state.y * reg.width + state.x = sym own_long ∙ stands.rolls.place in
            let row_is : state.y ≡ y = sym (div-mul-add state.y reg.width state.x stands.rolls.in_row) ∙ ap (λ n. n / reg.width) (sym place) ∙ div-mul-add y reg.width x px in
            let column_is : state.x ≡ x = let rows = ap (λ n. n * reg.width) row_is in omega (arith, place, rows) in
            record {
              rows_above = subst (λ n. 2 ≤ n) (sym row_is) away.0;
              columns_left = subst (λ n. 2 ≤ n) (sym column_is) away.1;
              columns_right = let wide : state.width ≡ reg.width = stands.same_width in let right = away.2 in omega (arith, wide, column_is, right);
            }

        -- it can give the properties of the cell
        pub is_ready : AllLie (regions_of c) store → IsReady state store
        is_ready lie = record {
          where_set = setting_of c i;
          before = take j own;
          stands = stands;
          few_rows = let n = (narrow_at c coding i li).1 in subst (λ k. k < 2 ^ 30) (sym line_is) (omega (arith, n, qy));
          earlier_hold = subst (λ k. All (λ r. HoldsRow r store reg.width k) (setting_of c i).earlier) (sym line_is)
              (all_handed (asked_at c i) (λ r. HoldsRow r store reg.width y) _ (earlier_all (part_of c).channels i (λ r. HoldsRow r store reg.width y) (region_at (regions_of c)) (λ e less alike.
              let le : e < length (regions_of c) = omega (arith, less, li) in
              let other = same_size (part_of c).channels (regions_of c) e coding.sizes le in
              let same = same_sides (channel (part_of c).channels e) (channel (part_of c).channels i) alike in
              record {
                lies = lie e (region 0 0 0 0 0) le;
                as_wide = other.0 ∙ same.0 ∙ sym sides.0;
                below = subst (λ n. y < n) (sides.1 ∙ sym same.1 ∙ sym other.1) qy;
              })));
        }

        in_row : row_of state ≡ y
        in_row = sym (stands_row state (setting_of c i) (take j own) stands) ∙ line_is

        -- rows of earlier channels that it holds are those of row y
        pub rows_are : (rows : List (EarlierRow X)) → HoldRows state store rows → AreRowsOf (setting_of c i).earlier store y rows
        rows_are rows h = subst (λ n. AreRowsOf (setting_of c i).earlier store n rows) in_row (of_setting state (setting_of c i) (take j own) stands store rows h)

        -- and so it holds these
        pub rows_held : (rows : List (EarlierRow X)) → AreRowsOf (setting_of c i).earlier store y rows → HoldRows state store rows
        rows_held rows h = in_state state (setting_of c i) (take j own) stands store rows (subst (λ n. AreRowsOf (setting_of c i).earlier store n rows) (sym in_row) h)

-- as much room as before, twice
pub same_room_twice : {X : Type 0} (a b c : PredictorState X) → HasSameRoom a b → HasSameRoom b c → HasSameRoom a c
same_room_twice a b c first second = record {
  same_room = second.same_room ∙ first.same_room;
  same_earlier_room = second.same_earlier_room ∙ first.same_earlier_room;
  same_weights = second.same_weights ∙ first.same_weights;
}

-- at the first cell of a row the state is after the rows above
pub at_row_start : {D X : Type 0} (c : PartCoding D) (i : ℕ) (to_int : X → ℤ) (store : List (Grid X)) (y : ℕ) (state : PredictorState X) →
    StandsAfter c to_int store i (y * (region_at (regions_of c) i).width) state → StandsAfter c to_int store i (y * (region_at (regions_of c) i).width + 0) state
at_row_start c i to_int store y state h =
    let n : y * (region_at (regions_of c) i).width ≡ y * (region_at (regions_of c) i).width + 0 = omega arith in
    subst (λ k. StandsAfter c to_int store i k state) n h

-- after its last cell it is after the rows up to it
pub at_row_end : {D X : Type 0} (c : PartCoding D) (i : ℕ) (to_int : X → ℤ) (store : List (Grid X)) (y n : ℕ) (state : PredictorState X) → n ≡ (region_at (regions_of c) i).width →
    StandsAfter c to_int store i (y * (region_at (regions_of c) i).width + n) state → StandsAfter c to_int store i ((y + 1) * (region_at (regions_of c) i).width) state
at_row_end c i to_int store y n state is h =
    let e : y * (region_at (regions_of c) i).width + (region_at (regions_of c) i).width ≡ (y + 1) * (region_at (regions_of c) i).width = omega arith in
    subst (λ k. StandsAfter c to_int store i k state) (ap (λ m. y * (region_at (regions_of c) i).width + m) is ∙ e) h

-- no token of a row yet
pub none_yet : {D X T : Type 0} (c : PartCoding D) (w : Width) (to_int : X → ℤ) (store : List (Grid X)) (form : Form T) (i y : ℕ) (out : List T) → AreRowTokens c w to_int store form i y 0 out
none_yet c w to_int store form i y out x d less = absurd (omega (arith, less))

-- what is known of a state is known of the same
pub stands_so : {X : Type 0} (s : Setting) (samples : List ℤ) (a b : PredictorState X) → b ≡ a → StandsAt a s samples → StandsAt b s samples
stands_so s samples a b same h = subst (λ p. StandsAt p s samples) (sym same) h

-- and so is its room
pub room_so : {X : Type 0} (old a b : PredictorState X) → b ≡ a → HasSameRoom old a → HasSameRoom old b
room_so old a b same h = subst (HasSameRoom old) (sym same) h
