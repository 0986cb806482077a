-- The next sample of a part, by its flat trees and by what the predictor's state was set for.
use Rattle.std.proofs.Common.{◌≡◌, ◌≢◌, ℕ, zero, suc, ◌+◌, ◌-◌, ◌*◌, ◌/◌, ◌<◌, ◌≤◌, List, [], ◌∷◌, ◌++◌, length, take, map, Bool, true, false, if◌then◌else◌, Option, Some, None, refl, sym, ap, ◌∙◌, arith, ℤ, pos, neg_ℤ, ◌^◌, ◌≤ℤ◌, ◌<ℤ◌, nat_lt}
use Rattle.std.specs.Prelude.{slice_get, slice_index_or}
use Rattle.std.specs.Int.{w32, int_wrap}
use Rattle.std.proofs.lemmas.Bool.{ltb-false}
use Rattle.std.proofs.lemmas.Int.{SFits-int_wrap, ints}
use Rattle.std.proofs.lemmas.List.{length-map}
use Rattle.std.proofs.lemmas.Simd.{map-map}
use Rattle.jxlm_base.specs.Grid.{Grid}
use Rattle.jxlm_base.specs.Regions.{grid_of}
use Rattle.jxlm_base.specs.declared.subgrid.Region.{Region}
use Rattle.jxlm_tree.specs.FlatTree.{GoesWithoutWeights, ReadsEarlierBelow, leaf_reached}
use Rattle.jxlm_tree.specs.ShortTrees.{Fits}
use Rattle.jxlm_predictor.specs.Holding.{surroundings as surroundings_of}
use Rattle.jxlm_predictor.specs.Predictions.{prediction}
use Rattle.jxlm_predictor.specs.Properties.{Surroundings, earlier_property, own_properties, place_property, property}
use Rattle.jxlm_weighted.specs.SelfCorrecting.{error_property}
use Rattle.jxlm_predictor.specs.Standing.{Setting, setting}
use Rattle.jxlm_tree.specs.Tree.{walk}
use Rattle.jxlm_ma_tree.specs.declared.leaf.Leaf.{Leaf}
use Rattle.jxlm_predictor.specs.declared.predictor.Predictor.{Predictor}
use Rattle.jxlm_predictor.specs.declared.predictor.Predictor.TheVariants.{Zero, West, North, AvgWestAndNorth, Select, Gradient, SelfCorrecting, NorthEast, NorthWest, WestWest, AvgWestAndNorthWest, AvgNorthAndNorthWest, AvgNorthAndNorthEast, AvgAll}
use Rattle.jxlm_weighted.specs.declared.weights.WpHeader.{WpHeader}
use Rattle.jxlm_samples.specs.Coded.{next_prediction}
use Rattle.jxlm_samples.specs.Reading.{flat}
use Rattle.jxlm_samples.specs.Inner.Cells.{predicted_at}
use Rattle.jxlm_samples.specs.ChannelSettings.{earlier_for, region_at}
use Rattle.jxlm_samples.specs.Part.{Part, channel, clamps, earlier_alike, grid_of as grid_before, next_channel, samples_of, next_leaf, place_by, property_by, surroundings}
use Rattle.jxlm_samples.proofs.ClampedSums.{by-fit, by_same, walks_by}
use Rattle.jxlm_samples.proofs.Earlier.{earlier_mapped, few_earlier}
use Rattle.jxlm_samples.specs.CellLeaves.{leaf_at}

-- what properties look at, with and without weights
abbrev with_weights : Surroundings → Option WpHeader → Surroundings
with_weights s weights = record s { weights = weights }

-- properties are the same where those of the place are, and those of earlier channels
chosen : (known own : Bool) (a b c d : ℤ) → (own ≡ true → a ≡ b) → (own ≡ false → c ≡ d) → (if known then pos 0 else if own then a else c) ≡ (if known then pos 0 else if own then b else d)
chosen true own a b c d h k = refl
chosen false true a b c d h k = h refl
chosen false false a b c d h k = k refl

-- lists that differ in their last element
last_differs : (xs : List ℤ) (x y : ℤ) (j : ℕ) → j ≢ length xs → slice_index_or (xs ++ x ∷ []) j (pos 0) ≡ slice_index_or (xs ++ y ∷ []) j (pos 0)
last_differs [] x y zero h = absurd (h refl)
last_differs [] x y (suc j) h = refl
last_differs (z ∷ xs) x y zero h = refl
last_differs (z ∷ xs) x y (suc j) h = last_differs xs x y j (λ e. h (ap suc e))

-- a property other than 15 is the same without weights
weightless : (s : Surroundings) (a b : Option WpHeader) (k : ℕ) → k ≢ 15 → place_property (with_weights s a) k ≡ place_property (with_weights s b) k
weightless s a b k h =
    let other : k - 2 ≢ 13 = λ e. h (omega (arith, e)) in
    let same = last_differs (take 13 (own_properties s)) (error_property a s.samples s.width) (error_property b s.samples s.width) (k - 2) other in
    chosen (nat_lt k 2) (nat_lt k 16) _ _ _ _ (λ own. ap (int_wrap w32) same) (λ past. refl)

-- the first of a list are found in it
got : {X Y : Type 0} (f : X → Y) (n : ℕ) (xs : List X) (j : ℕ) → j < n → slice_get (map f (take n xs)) j ≡ slice_get (map f xs) j
got f zero xs j l = absurd (omega arith)
got f (suc n) [] j l = refl
got f (suc n) (x ∷ xs) zero l = refl
got f (suc n) (x ∷ xs) (suc j) l = got f n xs j (omega arith)

abbrev with_earlier : Surroundings → List (Grid ℤ) → Surroundings
with_earlier s grids = record s { earlier = grids }

-- a property of the first earlier channels is the same where there are no others
cut_same : {X : Type 0} (s : Surroundings) (f : X → Grid ℤ) (xs : List X) (n k : ℕ) → k < 16 + 4 * n → place_property (with_earlier s (map f (take n xs))) k ≡ place_property (with_earlier s (map f xs)) k
cut_same s f xs n k h = chosen (nat_lt k 2) (nat_lt k 16) _ _ _ _ (λ own. refl) (λ past.
    let there : (k - 16) / 4 < n = let m = ltb-false k 16 past in omega (arith, h, m) in
    let same : earlier_property (with_earlier s (map f (take n xs))) (k - 16) ≡ earlier_property (with_earlier s (map f xs)) (k - 16) = rw (got f n xs ((k - 16) / 4) there) refl in
    ap (int_wrap w32) same)

-- so it is where a tree that asks for none is given none
cut_handed : {X : Type 0} (s : Surroundings) (f : X → Grid ℤ) (xs : List X) (n k : ℕ) → k < 16 + 4 * n →
    place_property (with_earlier s (map f (earlier_for n xs))) k ≡ place_property (with_earlier s (map f xs)) k
cut_handed s f xs zero k h = cut_same s f xs 0 k (omega (arith, h))
cut_handed s f xs (suc n) k h = refl

-- each property is a number of 32 bits
wraps-fit : (z : ℤ) → (neg_ℤ (pos (2 ^ 31)) ≤ℤ int_wrap w32 z) × (int_wrap w32 z <ℤ pos (2 ^ 31))
wraps-fit z = let f = SFits-int_wrap w32 z in (omega (arith, ints), omega (arith, ints))

either-fit : (a b : Bool) (x y : ℤ) → (neg_ℤ (pos (2 ^ 31)) ≤ℤ (if a then pos 0 else if b then int_wrap w32 x else int_wrap w32 y)) × ((if a then pos 0 else if b then int_wrap w32 x else int_wrap w32 y) <ℤ pos (2 ^ 31))
either-fit true b x y = (omega (arith, ints), omega (arith, ints))
either-fit false true x y = wraps-fit x
either-fit false false x y = wraps-fit y

pub place-fit : (s : Surroundings) → Fits (place_property s)
place-fit s = record {
  low = λ k. (either-fit (nat_lt k 2) (nat_lt k 16) _ _).0;
  high = λ k. (either-fit (nat_lt k 2) (nat_lt k 16) _ _).1;
}

-- a prediction is the same without weights by each predictor but the weighted one
predicts_without : (a b : Option WpHeader) (samples : List ℤ) (width : ℕ) (p : Predictor) → p ≢ SelfCorrecting → prediction a samples width p ≡ prediction b samples width p
predicts_without a b samples width Zero h = refl
predicts_without a b samples width West h = refl
predicts_without a b samples width North h = refl
predicts_without a b samples width AvgWestAndNorth h = refl
predicts_without a b samples width Select h = refl
predicts_without a b samples width Gradient h = refl
predicts_without a b samples width SelfCorrecting h = absurd (h refl)
predicts_without a b samples width NorthEast h = refl
predicts_without a b samples width NorthWest h = refl
predicts_without a b samples width WestWest h = refl
predicts_without a b samples width AvgWestAndNorthWest h = refl
predicts_without a b samples width AvgNorthAndNorthWest h = refl
predicts_without a b samples width AvgNorthAndNorthEast h = refl
predicts_without a b samples width AvgAll h = refl

-- After these cells comes a cell of channel i, which sees these cells of its own channel, and the earlier regions whole.
pub record SeesRegions (part : Part) (regions : List Region) (ints : List (Grid ℤ)) (i : ℕ) (before own : List ℤ) : Type 0 where
  pub wide : (region_at regions i).width ≡ (channel part.channels i).width
  pub stands : next_channel part.channels before ≡ i
  pub own_is : samples_of part.channels before i ≡ own
  pub earlier_is : (e : ℕ) → e < i → grid_before part.channels before e ≡ grid_of ints (region_at regions e)

module _ (part : Part) (regions : List Region) (ints : List (Grid ℤ)) (i : ℕ) (before own : List ℤ) (sees : SeesRegions part regions ints i before own) where
  abbrev reg : Region
  reg = region_at regions i

  abbrev earlier : List Region
  earlier = map (region_at regions) (earlier_alike part.channels i)

  abbrev pub seen_with : Option WpHeader → Surroundings
  seen_with weights = surroundings_of (setting reg.width weights earlier) ints own

  abbrev made : ℕ → List ℤ → List (Grid ℤ) → Surroundings
  made width samples grids = record { weights = Some part.weights; width = width; samples = samples; earlier = grids }

  earlier_are : map (grid_before part.channels before) (earlier_alike part.channels i) ≡ map (grid_of ints) earlier
  earlier_are =
      earlier_mapped part.channels i (grid_before part.channels before) (λ e. grid_of ints (region_at regions e)) sees.earlier_is
      ∙ sym (map-map (grid_of ints) (region_at regions) (earlier_alike part.channels i))

  -- what the next sample sees is what the state was set for, and the cells before it
  same_seen : surroundings part before ≡ seen_with (Some part.weights)
  same_seen =
      ap (λ n. made (channel part.channels n).width (samples_of part.channels before n) (map (grid_before part.channels before) (earlier_alike part.channels n))) sees.stands
      ∙ ap (λ n. made n (samples_of part.channels before i) (map (grid_before part.channels before) (earlier_alike part.channels i))) (sym sees.wide)
      ∙ ap (λ samples. made reg.width samples (map (grid_before part.channels before) (earlier_alike part.channels i))) sees.own_is
      ∙ ap (made reg.width own) earlier_are

  few : length (map (grid_of ints) earlier) ≤ i
  few =
      let a = length-map earlier (grid_of ints) in
      let b = length-map (earlier_alike part.channels i) (region_at regions) in
      let c = few_earlier part.channels i in
      omega (arith, a, b, c)

  -- with weights, the flat tree leads to the leaf of the part
  pub leaf_with : leaf_reached (flat part.tree part.stream i) (place_by (clamps part i) (seen_with (Some part.weights))) ≡ next_leaf part before
  leaf_with =
      walks_by (clamps part i) (flat part.tree part.stream i) (seen_with (Some part.weights)) few
      ∙ sym (ap (λ (s : Surroundings). walk part.tree (property_by (clamps part i) i part.stream s)) same_seen)
      ∙ sym (ap (λ n. walk part.tree (property_by (clamps part n) n part.stream (surroundings part before))) sees.stands)

  -- the prediction of the part, at its leaf
  predicted_with : next_prediction part before ≡ prediction (Some part.weights) own reg.width (next_leaf part before).predictor
  predicted_with = ap (λ (s : Surroundings). prediction s.weights s.samples s.width (next_leaf part before).predictor) same_seen

  -- The leaf and the prediction that the flat tree leads to are those of the next sample of the part.
  pub record IsNext (s : Setting) : Type 0 where
    pub leaf_is : leaf_at (clamps part i) (flat part.tree part.stream i) s ints own ≡ next_leaf part before
    pub predicted_is : predicted_at (clamps part i) (flat part.tree part.stream i) s ints own ≡ next_prediction part before

  -- the earlier channels, where the tree asks for any
  module _ (n : ℕ) (below : ReadsEarlierBelow (flat part.tree part.stream i) n) where
    abbrev handed_on : List Region
    handed_on = earlier_for n earlier

    abbrev cut_with : Option WpHeader → Surroundings
    cut_with weights = surroundings_of (setting reg.width weights handed_on) ints own

    abbrev b : Bool
    b = clamps part i

    cut_leaf : (weights : Option WpHeader) → leaf_reached (flat part.tree part.stream i) (place_by b (cut_with weights)) ≡ leaf_reached (flat part.tree part.stream i) (place_by b (seen_with weights))
    cut_leaf weights =
        below (place_by b (cut_with weights)) (place_by b (seen_with weights)) (by-fit b (cut_with weights) (place-fit (cut_with weights))) (by-fit b (seen_with weights) (place-fit (seen_with weights)))
        (λ k less. by_same b (cut_with weights) (seen_with weights) k refl (cut_handed (seen_with weights) (grid_of ints) earlier n k less))

    pub is_next : (used : Bool) → (used ≡ false → GoesWithoutWeights (flat part.tree part.stream i)) → IsNext (setting reg.width (if used then Some part.weights else None) handed_on)
    is_next true without =
        let same = cut_leaf (Some part.weights) ∙ leaf_with in
        record {
          leaf_is = same;
          predicted_is = ap (λ (k : Leaf). prediction (Some part.weights) own reg.width k.predictor) same ∙ sym predicted_with;
        }
    is_next false without =
        let goes = without refl (place_by b (cut_with None)) (place_by b (cut_with (Some part.weights))) (by-fit b (cut_with None) (place-fit (cut_with None))) (by-fit b (cut_with (Some part.weights)) (place-fit (cut_with (Some part.weights))))
        (λ k other. by_same b (cut_with None) (cut_with (Some part.weights)) k refl (weightless (cut_with None) None (Some part.weights) k other)) in
        let same = goes.0 ∙ cut_leaf (Some part.weights) ∙ leaf_with in
        record {
          leaf_is = same;
          predicted_is = predicts_without None (Some part.weights) own reg.width (leaf_at b (flat part.tree part.stream i) (setting reg.width None handed_on) ints own).predictor goes.1
              ∙ ap (λ (k : Leaf). prediction (Some part.weights) own reg.width k.predictor) same ∙ sym predicted_with;
        }
