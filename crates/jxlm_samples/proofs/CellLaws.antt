-- A cell of a part: what it holds, and what is read into it.
use Rattle.std.proofs.Common.{Bool, ◌≡◌, ℕ, zero, suc, ◌+◌, ◌*◌, ◌/◌, ◌<◌, ◌≤◌, ◌^◌, List, [], ◌∷◌, ◌++◌, length, map, take, Some, refl, sym, ap, ◌∙◌, subst, arith, ℤ, slice_index_or, Bool, true, false, None, Option, if◌then◌else◌}
use Rattle.std.specs.Prelude.{slice_get, slice_set, IfSome}
use Rattle.std.specs.List.{All}
use Rattle.std.specs.Int.{Width}
use Rattle.std.proofs.lemmas.List.{append-nil, append_assoc, length-append, length-map, length-take-le, map-set, take_more_set}
use Rattle.std.proofs.lemmas.Nat.{div-mul-add, mul-add-lt}
use Rattle.std.specs.Option.{option_map_or}
use Rattle.std.proofs.lemmas.Option.{slice_get-get_or}
use Rattle.std.proofs.lemmas.List.Elements.{All-nil}
use Rattle.std.proofs.lemmas.List.Folds.{list_any_at}
use Rattle.jxlm_bits.specs.Bits.{bytes_of, position_of}
use Rattle.jxlm_bits.specs.Decoding.{Meaning}
use Rattle.jxlm_base.specs.Grid.{Grid}
use Rattle.jxlm_base.specs.Regions.{grid_of, region, store_meanings}
use Rattle.jxlm_bits.specs.declared.decoder.DecoderError.{DecoderError}
use Rattle.jxlm_base.specs.declared.subgrid.Region.{Region}
use Rattle.jxlm_base.proofs.Regions.{IsFull-grid_of}
use Rattle.jxlm_weighted.specs.Correcting.{Corrects, header_of}
use Rattle.jxlm_predictor.specs.EarlierRows.{AreRowsOf, HoldRows}
use Rattle.jxlm_predictor.specs.Holding.{state_of, store_of}
use Rattle.jxlm_tree.specs.LeafSets.{AreSetsOf}
use Rattle.jxlm_tree.specs.FlatTree.{ClustersStandIn, FlatTree, GoesWithoutWeights, ReadsEarlierBelow}
use Rattle.jxlm_weighted.specs.Neighbours.{row as line}
use Rattle.jxlm_predictor.specs.Standing.{HasSameRoom, HoldsRow, IsInner, IsReady, Setting, StandsAt, row_of}
use Rattle.jxlm_samples.specs.CellLeaves.{leaf_at, steps_walked}
use Rattle.jxlm_predictor.specs.declared.earlier.EarlierRow.{EarlierRow}
use Rattle.jxlm_ma_tree.specs.declared.leaf.Leaf.{Leaf}
use Rattle.jxlm_tree.specs.declared.paths.Path.{Path}
use Rattle.jxlm_predictor.specs.declared.properties.Properties.{Properties}
use Rattle.jxlm_weighted.specs.declared.weights.WpHeader.{WpHeader}
use Rattle.jxlm_weighted.specs.declared.self_correcting.Corrector.{Corrector}
use Rattle.jxlm_predictor.specs.declared.state.PredictorState.{PredictorState}
use Rattle.jxlm_predictor.proofs.EarlierLaws.{in_state, of_setting}
use Rattle.jxlm_predictor.proofs.StandingLaws.{stands_row}
use Rattle.jxlm_samples.specs.Coded.{next_prediction, sample_of}
use Rattle.jxlm_tree.specs.SumTrees.{GoesBySum, takes_sums_at}
use Rattle.jxlm_transform.specs.Params.{are_clamped}
use Rattle.jxlm_tree.proofs.SumTrees.{goes_by_sum, second_of}
use Rattle.jxlm_transform.specs.ChannelSteps.{table_channel}
use Rattle.jxlm_samples.specs.Part.{clamps, channel, max_width}
use Rattle.jxlm_samples.specs.Reading.{FindsClusters, HasRoomFor, IsCodingOf, IsTreeOf, alone_at, are_weighted, cost_of, flat, part_of, regions_of, weights_used}
use Rattle.jxlm_samples.specs.Inner.Cells.{FailsSample, ReadsSample, predicted_at}
use Rattle.jxlm_samples.specs.ChannelSettings.{StandsAfter, asked_at, earlier_for, region_at, setting_of, weighted_at, weights_at}
use Rattle.jxlm_samples.specs.Progress.{grids_in}
use Rattle.jxlm_samples.specs.Inner.Paths.{HasSets}
use Rattle.jxlm_samples.specs.Inner.Progress.{preceding_cells}
use Rattle.jxlm_samples.specs.Inner.Rows.{FailsCell, HasSetsOn, IsLine, ReadsCell, StandsInRow, rule_on}
use Rattle.jxlm_samples.specs.declared.source.Source.{Source}
use Rattle.jxlm_samples.specs.Rule.{Rule}
use Rattle.jxlm_samples.specs.declared.coding.ChannelTree.{ChannelTree}
use Rattle.jxlm_samples.specs.declared.coding.PartCoding.{PartCoding}
use Rattle.jxlm_samples.specs.declared.rows.Line.{Line}
use Rattle.jxlm_samples.proofs.Earlier.{earlier_all, same_sides}
use Rattle.jxlm_samples.proofs.Loops.{same_count, same_size}
use Rattle.jxlm_samples.proofs.NextSample.{IsNext, is_next}
use Rattle.jxlm_samples.proofs.RowSees.{sees_regions}
use Rattle.jxlm_samples.specs.Lines.{IsAway, region_on}

-- what is known of a state is known of the same
pub stands_so : {X : Type 0} (s : Setting) (samples : List ℤ) (a b : PredictorState X) → b ≡ a → StandsAt a s samples → StandsAt b s samples
stands_so s samples a b same h = subst (λ p. StandsAt p s samples) (sym same) h

-- a state uses no weights where its setting has none
pub uses_none : (o : Option Corrector) (weights : Option WpHeader) (width x y : ℕ) (samples : List ℤ) → weights ≡ None → Corrects o weights width x y samples → header_of o ≡ None
uses_none None weights width x y samples none h = refl
uses_none (Some c) weights width x y samples none h = absurd (subst (λ (w : Option WpHeader). Corrects (Some c) w width x y samples) none h)

-- and the setting has none where the state uses none
pub has_none : (o : Option Corrector) (weights : Option WpHeader) (width x y : ℕ) (samples : List ℤ) → header_of o ≡ None → Corrects o weights width x y samples → weights ≡ None
has_none None None width x y samples none h = refl
has_none None (Some w) width x y samples none h = absurd h
has_none (Some c) None width x y samples none h = refl
has_none (Some c) (Some w) width x y samples none h = absurd (cc)

-- what holds of all earlier channels holds of those that are given to the state
all_handed : {X : Type 0} (n : ℕ) (P : X → Type 0) (xs : List X) → All P xs → All P (earlier_for n xs)
all_handed zero P xs h = All-nil P
all_handed (suc n) P xs h = h

-- cells that are read by sets of leaves are read so at the value that their clamp has
pub made_on : {D X : Type 0} (l : Line X D) (clamped : Bool) (other : ChannelTree) → l.clamped ≡ clamped → HasSetsOn l → HasSets (slice_index_or l.coding.now.flats.now l.i other) clamped l.path
made_on l clamped other is h = subst (λ (b : Bool). HasSets (slice_index_or l.coding.now.flats.now l.i other) b l.path) is (h other)

-- where none of them asks for the weights, one does not
not_weighted : (flats : List ChannelTree) → are_weighted flats ≡ false → (i : ℕ) (other : ChannelTree) → i < length flats → (slice_index_or flats i other).weighted ≡ false
not_weighted flats none i other less = by (slice_index_or flats i other).weighted (λ is. sym none ∙ list_any_at (λ (t : ChannelTree). t.weighted) flats i other less is) where
  by : (b : Bool) → (b ≡ true → false ≡ true) → b ≡ false
  by true so = sym (so refl)
  by false so = refl

module _ {D : Type 0} (c : PartCoding D) (coding : IsCodingOf c) (i : ℕ) (li : i < length (regions_of c)) where
  -- the flat tree of a channel
  pub tree_at : (other : ChannelTree) → IsTreeOf (flat c.config.now.tree c.stream_index i) (slice_index_or c.flats.now i other)
  tree_at other = coding.flats.each i other li

  pub flat_at : (other : ChannelTree) → (slice_index_or c.flats.now i other).flat ≡ flat c.config.now.tree c.stream_index i
  flat_at other = (tree_at other).flat_is

  pub flat_there : i < length c.flats.now
  flat_there = let n = coding.flats.count_is in omega (arith, n, li)

  kept_is : {A : Type 0} (f : ChannelTree → A) (none : A) (other : ChannelTree) → option_map_or f (slice_get c.flats.now i) none ≡ f (slice_index_or c.flats.now i other)
  kept_is f none other = ap (λ o. option_map_or f o none) (slice_get-get_or c.flats.now i other flat_there)

  -- how many earlier channels it asks for
  pub asked_is : (other : ChannelTree) → asked_at c i ≡ (slice_index_or c.flats.now i other).asked
  asked_is other = kept_is (λ t. t.asked) 0 other

  -- a channel tree, any of them
  any_tree : ChannelTree
  any_tree = record { flat = flat c.config.now.tree c.stream_index i; weighted = true; asked = 0; alone = None; sets = None }

  -- what it is read by alone
  pub alone_is : (other : ChannelTree) → alone_at c i ≡ (slice_index_or c.flats.now i other).alone
  alone_is other = kept_is (λ t. t.alone) None other

  reads_below : ReadsEarlierBelow (flat c.config.now.tree c.stream_index i) (asked_at c i)
  reads_below = subst (ReadsEarlierBelow (flat c.config.now.tree c.stream_index i)) (sym (asked_is any_tree)) (tree_at any_tree).below

  -- whether it may ask for the weights
  pub weighted_is : (other : ChannelTree) → weighted_at c i ≡ (slice_index_or c.flats.now i other).weighted
  weighted_is other = kept_is (λ t. t.weighted) false other

  goes_without : weighted_at c i ≡ false → GoesWithoutWeights (flat c.config.now.tree c.stream_index i)
  goes_without none = (tree_at any_tree).without (sym (weighted_is any_tree) ∙ none)

  -- the weights of a state, where its tree may ask for them, are those of the channel
  pub weights_are : (other : ChannelTree) (kept : Option WpHeader) → kept ≡ weights_used c → (if (slice_index_or c.flats.now i other).weighted then kept else None) ≡ weights_at c i
  weights_are other kept is =
      ap (λ (b : Bool). if b then kept else None) (sym (weighted_is other)) ∙ by (weighted_at c i) (are_weighted c.flats.now)
      (λ none. weighted_is other ∙ not_weighted c.flats.now none i other flat_there) is where
        by : (here some : Bool) → (some ≡ false → here ≡ false) → kept ≡ (if some then Some c.weights else None) → (if here then kept else None) ≡ (if here then Some c.weights else None)
        by false some none same = refl
        by true true none same = same
        by true false none same = let no : true ≡ false = none refl in cc

  pub clusters_at : (other : ChannelTree) (clusters : List ℕ) → FindsClusters c clusters → ClustersStandIn clusters (slice_index_or c.flats.now i other).flat.tree
  clusters_at other clusters h = subst (λ (t : FlatTree). ClustersStandIn clusters t.tree) (sym (flat_at other)) h

  -- its sets of leaves, where there are any, are those of its tree
  pub sets_at : (other : ChannelTree) → IfSome (slice_index_or c.flats.now i other).sets (AreSetsOf (slice_index_or c.flats.now i other).flat)
  sets_at other = subst (λ (t : FlatTree). IfSome (slice_index_or c.flats.now i other).sets (AreSetsOf t)) (sym (flat_at other)) (tree_at other).sets

  -- where property 9 is clamped, its walks go by that alone
  pub sums_at : (other : ChannelTree) → clamps (part_of c) i ≡ true → GoesBySum (slice_index_or c.flats.now i other).flat
  sums_at other h = subst GoesBySum (sym (flat_at other)) (goes_by_sum (flat c.config.now.tree c.stream_index i) (second_of (are_clamped (channel (part_of c).channels i).gradient_sums) (takes_sums_at i c.stream_index c.config.now.tree) h))

  pub cost_at : (other : ChannelTree) (path : Path) (before after : ℕ) → after ≤ before + steps_walked path (slice_index_or c.flats.now i other).flat.tree → steps_walked path c.config.now.tree ≤ cost_of c → after ≤ before + cost_of c
  cost_at other path before after h bound =
      let same = ap (λ (t : FlatTree). steps_walked path t.tree) (flat_at other) in
      omega (arith, same, h, bound)

  pub roomy_still : {X : Type 0} {width : ℕ} (old new : PredictorState X) → HasSameRoom old new → HasRoomFor width c old → HasRoomFor width c new
  roomy_still {width = width} old new same h = record {
    widest = subst (λ n. width ≤ n) (sym same.same_room) h.widest;
    earlier = subst (λ n. length (regions_of c) ≤ n) (sym same.same_earlier_room) h.earlier;
    weights = same.same_weights ∙ h.weights;
  }

  -- both sides of the channel's region are at most 2 ^ 30
  pub narrow_at : ((region_at (regions_of c) i).width ≤ 2 ^ 30) × ((region_at (regions_of c) i).height ≤ 2 ^ 30)
  narrow_at =
      let count = same_count (part_of c).channels (regions_of c) coding.sizes in
      let same = same_size (part_of c).channels (regions_of c) i coding.sizes li in
      let sides = coding.narrow i (table_channel 0 0) (omega (arith, count)) in
      (subst (λ n. n ≤ 2 ^ 30) (sym same.0) sides.0, subst (λ n. n ≤ 2 ^ 30) (sym same.1) sides.1)

-- the read of the cell in column x of a line's row, after the cells of the row before it
module _ {D X : Type 0} (l : Line X D) (to_int : X → ℤ) (is : IsLine l) (x : ℕ) (vs : List X) (wide : length vs ≡ (region_on l).width) (px : x < (region_on l).width) where
  abbrev c : PartCoding D
  c = l.coding.now

  abbrev i : ℕ
  i = l.i

  abbrev y : ℕ
  y = l.y

  abbrev coding : IsCodingOf c
  coding = is.here.part.coding

  abbrev reg : Region
  reg = region_on l

  abbrev ints : List (Grid ℤ)
  ints = store_meanings to_int l.store.now

  abbrev row : List ℤ
  row = map to_int vs

  long : length row ≡ reg.width
  long = length-map vs to_int ∙ wide

  abbrev cells : List ℤ
  cells = (grid_of ints reg).cells

  abbrev so_far : List ℤ
  so_far = take x row

  abbrev pub own : List ℤ
  own = take (y * reg.width) cells ++ so_far

  row_long : length so_far ≡ x
  row_long = length-take-le x row (omega (arith, long, px))

  own_long : length own ≡ y * reg.width + x
  own_long =
      let full = IsFull-grid_of ints reg in
      let n = mul-add-lt y reg.width x reg.height is.below px in
      let k : y * reg.width ≤ length cells = omega (arith, full, n) in
      let a = length-take-le (y * reg.width) cells k in
      let b = length-append (take (y * reg.width) cells) so_far in
      b ∙ ap (λ j. j + length so_far) a ∙ ap (λ j. y * reg.width + j) row_long

  line_is : line own reg.width ≡ y
  line_is = ap (λ j. j / reg.width) own_long ∙ div-mul-add y reg.width x px

  -- the state is as far from the edges as the cell
  pub is_inner : (state : PredictorState X) → StandsInRow c to_int l.store.now i y so_far state → IsAway x y reg.width → IsInner state
  is_inner state stands away =
      let place : y * reg.width + x ≡ state.y * reg.width + state.x = sym own_long ∙ stands.rolls.place in
      let row_is : state.y ≡ y = sym (div-mul-add state.y reg.width state.x stands.rolls.in_row) ∙ ap (λ n. n / reg.width) (sym place) ∙ div-mul-add y reg.width x px in
      let column_is : state.x ≡ x = let rows = ap (λ n. n * reg.width) row_is in omega (arith, place, rows) in
      record {
        rows_above = subst (λ n. 2 ≤ n) (sym row_is) away.rows_above;
        columns_left = subst (λ n. 2 ≤ n) (sym column_is) away.columns_left;
        columns_right = let wide : state.width ≡ reg.width = stands.same_width in let right = away.columns_right in omega (arith, wide, column_is, right);
      }

  -- the state can give the properties of the cell
  pub is_ready : (state : PredictorState X) → StandsInRow c to_int l.store.now i y so_far state → IsReady state l.store.now
  is_ready state stands = record {
    where_set = setting_of c i;
    before = own;
    stands = stands;
    few_rows = let n = (narrow_at c coding i is.here.channel).1 in subst (λ k. k < 2 ^ 30) (sym line_is) (let q = is.below in omega (arith, n, q));
    earlier_hold = subst (λ k. All (λ r. HoldsRow r l.store.now reg.width k) (setting_of c i).earlier) (sym line_is)
        (all_handed (asked_at c i) (λ r. HoldsRow r l.store.now reg.width y) _ (earlier_all (part_of c).channels i (λ r. HoldsRow r l.store.now reg.width y) (region_at (regions_of c)) (λ e less alike.
        let le : e < length (regions_of c) = let q = is.here.channel in omega (arith, less, q) in
        let here = same_size (part_of c).channels (regions_of c) i coding.sizes is.here.channel in
        let there = same_size (part_of c).channels (regions_of c) e coding.sizes le in
        let sides = same_sides (channel (part_of c).channels e) (channel (part_of c).channels i) alike in
        record {
          lies = is.here.part.lie e (region 0 0 0 0 0) le;
          as_wide = there.0 ∙ sides.0 ∙ sym here.0;
          below = subst (λ n. y < n) (here.1 ∙ sym sides.1 ∙ sym there.1) is.below;
        })));
  }

  module _ (state : PredictorState X) (stands : StandsInRow c to_int l.store.now i y so_far state) (rows : List (EarlierRow X)) where
    in_row : row_of state ≡ y
    in_row = sym (stands_row state (setting_of c i) own stands) ∙ line_is

    -- rows of earlier channels that the state holds are those of row y
    pub rows_are : HoldRows state l.store.now rows → AreRowsOf (setting_of c i).earlier l.store.now y rows
    rows_are h = subst (λ n. AreRowsOf (setting_of c i).earlier l.store.now n rows) in_row (of_setting state (setting_of c i) own stands l.store.now rows h)

    -- and so it holds these
    pub rows_held : AreRowsOf (setting_of c i).earlier l.store.now y rows → HoldRows state l.store.now rows
    rows_held h = in_state state (setting_of c i) own stands l.store.now rows (subst (λ n. AreRowsOf (setting_of c i).earlier l.store.now n rows) (sym in_row) h)

  -- after the cell, once it is in the row, the cells are those before it and its sample
  pub stands_further : (sample : X) (state : PredictorState X) →
      StandsAt state (setting_of c i) (own ++ to_int sample ∷ []) → StandsInRow c to_int l.store.now i y (take (x + 1) (map to_int (slice_set vs x sample))) state
  stands_further sample state stands =
      let inside : x < length row = omega (arith, long, px) in
      let more : take (y * reg.width) cells ++ take (x + 1) (map to_int (slice_set vs x sample)) ≡ own ++ to_int sample ∷ [] =
      ap (λ xs. take (y * reg.width) cells ++ take (x + 1) xs) (map-set to_int vs x sample) ∙ ap (λ xs. take (y * reg.width) cells ++ xs) (take_more_set row x (to_int sample) inside)
      ∙ sym (append_assoc (take (y * reg.width) cells) so_far (to_int sample ∷ [])) in
      subst (StandsAt state (setting_of c i)) (sym more) stands

  module _ (d : Meaning D) (w : Width) (old : Source D) (other : ChannelTree) where
    abbrev the_flat : FlatTree
    the_flat = (slice_index_or c.flats.now i other).flat

    abbrev rule : Rule D
    rule = rule_on l d to_int w (bytes_of old.bits)

    abbrev here : List ℤ
    here = preceding_cells (part_of c) (grids_in (regions_of c) ints) i 0 y ++ so_far

    abbrev clamped : Bool
    clamped = clamps (part_of c) i

    next : IsNext (part_of c) (regions_of c) ints i here own (sees_regions (part_of c) (regions_of c) ints i y coding.sizes is.here.channel is.below so_far (omega (arith, row_long, px))) (setting_of c i)
    next =
        is_next (part_of c) (regions_of c) ints i here own (sees_regions (part_of c) (regions_of c) ints i y coding.sizes is.here.channel is.below so_far (omega (arith, row_long, px)))
        (asked_at c i) (reads_below c coding i is.here.channel) (weighted_at c i) (goes_without c coding i is.here.channel)

    -- the read of the rule is that of the leaf to which the flat tree leads
    read_is : rule.read so_far old.decoder (position_of old.bits) ≡ d.read old.decoder (bytes_of old.bits) (position_of old.bits) (leaf_at clamped the_flat (setting_of c i) ints own).cluster c.widest
    read_is =
        sym (ap (λ (k : Leaf). d.read old.decoder (bytes_of old.bits) (position_of old.bits) k.cluster (max_width (part_of c).channels)) next.leaf_is)
        ∙ sym (ap (d.read old.decoder (bytes_of old.bits) (position_of old.bits) (leaf_at clamped (flat c.config.now.tree c.stream_index i) (setting_of c i) ints own).cluster) coding.widest)
        ∙ sym (ap (λ (t : FlatTree). d.read old.decoder (bytes_of old.bits) (position_of old.bits) (leaf_at clamped t (setting_of c i) ints own).cluster c.widest) (flat_at c coding i is.here.channel other))

    value_is : (token : ℕ) → rule.value so_far token ≡ sample_of w (leaf_at clamped the_flat (setting_of c i) ints own) (predicted_at clamped the_flat (setting_of c i) ints own) token
    value_is token =
        sym (ap (λ (k : Leaf). sample_of w k (next_prediction (part_of c) here) token) next.leaf_is)
        ∙ sym (ap (λ z. sample_of w (leaf_at clamped (flat c.config.now.tree c.stream_index i) (setting_of c i) ints own) z token) next.predicted_is)
        ∙ sym (ap (λ (t : FlatTree). sample_of w (leaf_at clamped t (setting_of c i) ints own) (predicted_at clamped t (setting_of c i) ints own) token) (flat_at c coding i is.here.channel other))

    module _ (bound : steps_walked l.path c.config.now.tree ≤ cost_of c) (new : Source D) (properties : Properties X) (same : store_of properties ≡ l.store.now) (at : StandsAt (state_of properties) (setting_of c i) own) where
      pub fails_cell : (e : DecoderError) → FailsSample d to_int clamped the_flat c.widest properties old new (steps_walked l.path the_flat.tree) e → FailsCell d (cost_of c) rule row x old new row e
      fails_cell e h = record {
        error = read_is ∙ rw same at (h.error (setting_of c i) own at);
        row_is = refl;
        place_is = h.place_is;
        memory = h.memory;
        bytes = h.bytes;
        work = cost_at c coding i is.here.channel other l.path old.steps new.steps h.work bound;
        more = h.more;
      }

      pub reads_cell : (from_int : ℤ → X) → ((n : ℤ) → to_int (from_int n) ≡ n) → (sample : X) →
          ReadsSample d to_int clamped the_flat c.widest properties old new w from_int (steps_walked l.path the_flat.tree) sample → ReadsCell d (cost_of c) rule row x old new (map to_int (slice_set vs x sample))
      reads_cell from_int back sample h =
          let reads = rw same at (h.reads (setting_of c i) own at) in
          record {
            token = reads.token;
            read = read_is ∙ reads.read;
            written = map-set to_int vs x sample ∙ ap (slice_set row x) (ap to_int reads.sample_is ∙ back _ ∙ sym (value_is reads.token));
            clusters = h.clusters;
            bytes = h.bytes;
            work = cost_at c coding i is.here.channel other l.path old.steps new.steps h.work bound;
            more = h.more;
          }

-- where the trees of two channels may both ask for the weights, or neither, the state uses the same
pub same_weights : {D : Type 0} (c : PartCoding D) (coding : IsCodingOf c) (e i : ℕ) → e < length (regions_of c) → i < length (regions_of c) → (a b : ChannelTree) →
    (slice_index_or c.flats.now e a).weighted ≡ (slice_index_or c.flats.now i b).weighted → weights_at c e ≡ weights_at c i
same_weights c coding e i le li a b same =
    ap (λ (x : Bool). if x then Some c.weights else None) (weighted_is c coding e le a ∙ same ∙ sym (weighted_is c coding i li b))

-- at the first cell of a row the state is after the rows above
pub begins_row : {D X : Type 0} (c : PartCoding D) (i : ℕ) (to_int : X → ℤ) (store : List (Grid X)) (y : ℕ) (state : PredictorState X) →
    StandsAfter c to_int store i (y * (region_at (regions_of c) i).width) state → StandsInRow c to_int store i y [] state
begins_row c i to_int store y state h = subst (StandsAt state (setting_of c i)) (sym (append-nil _)) h
