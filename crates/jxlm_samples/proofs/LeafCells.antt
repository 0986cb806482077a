-- One more cell of a row is made at one leaf, from the rows above it and the cells before.
use Rattle.std.proofs.Common.{◌≡◌, ℕ, zero, suc, ◌+◌, ◌-◌, ◌<◌, ◌≤◌, List, length, take, map, refl, sym, ap, ◌∙◌, subst, arith, ℤ, pos}
use Rattle.std.specs.Prelude.{get_or, slice_set}
use Rattle.std.specs.Int.{Width, w32, int_wrap}
use Rattle.std.proofs.lemmas.List.{get_or-map, get_or-set_other, get_or-set_same, get_or-take, length-take-le, map-set}
use Rattle.jxlm_weighted.specs.Neighbours.{Neighbours}
use Rattle.jxlm_predictor.specs.Predictions.{prediction_from}
use Rattle.jxlm_predictor.specs.declared.predictor.Predictor.{Predictor}
use Rattle.jxlm_ma_tree.specs.declared.leaf.Leaf.{Leaf}
use Rattle.jxlm_samples.specs.Coded.{sample_of}
use Rattle.jxlm_samples.specs.Inner.LeafRows.{IsLeft, around_in, leaf_value, prediction_in, west_west_in}
use Rattle.jxlm_samples.specs.RowNeighbours.{north_west_in, west_in}
use Rattle.jxlm_samples.specs.declared.one_leaf.Left.{Left}
use Rattle.jxlm_samples.proofs.GradientCells.{north_west_before, west_before}
use Rattle.jxlm_samples.proofs.RowNeighbours.{same_seven}

-- ---- neighbours depend on the cells before alone

module _ (above row : List ℤ) where
  west_west_before : (x : ℕ) → west_west_in above (take x row) x ≡ west_west_in above row x
  west_west_before zero = refl
  west_west_before (suc zero) = west_before above row 1
  west_west_before (suc (suc x)) = get_or-take (suc (suc x)) row x (pos 0) (omega arith)

  module _ (two : List ℤ) where
    around_before : (x : ℕ) → around_in above two (take x row) x ≡ around_in above two row x
    around_before x =
        let w = west_before above row x in
        let n = ap (get_or above x) w in
        let e = ap (get_or above (x + 1)) n in
        same_seven w n (north_west_before above row x) e (ap (get_or above (x + 2)) e) (ap (get_or two x) n) (west_west_before x)

    prediction_before : (l : Leaf) (x : ℕ) → x < length row → prediction_in above two l (take x row) ≡ int_wrap w32 (prediction_from (around_in above two row x) (pos 0) l.predictor)
    prediction_before l x inside =
        ap (λ k. int_wrap w32 (prediction_from (around_in above two (take x row) k) (pos 0) l.predictor)) (length-take-le x row (omega arith))
        ∙ ap (λ a. int_wrap w32 (prediction_from a (pos 0) l.predictor)) (around_before x)

    -- the sample of a token over the leaf's prediction, as the code computes it
    pub leaf_sample : {X : Type 0} (to_int : X → ℤ) (from_int : ℤ → X) → ((z : ℤ) → to_int (from_int z) ≡ z) → (w : Width) (l : Leaf) (x : ℕ) → x < length row →
        (a : Neighbours) → a ≡ around_in above two row x → (k : Predictor) → l.predictor ≡ k → (p : ℤ) → p ≡ int_wrap w32 (prediction_from a (pos 0) k) →
        (token : ℕ) (v : X) → v ≡ from_int (sample_of w l p token) → to_int v ≡ leaf_value w l above two (take x row) token
    leaf_sample to_int from_int back w l x inside a around_is k same p predicted token v is =
        let seen : p ≡ prediction_in above two l (take x row) =
        predicted ∙ ap (λ j. int_wrap w32 (prediction_from a (pos 0) j)) (sym same) ∙ ap (λ b. int_wrap w32 (prediction_from b (pos 0) l.predictor)) around_is ∙ sym (prediction_before l x inside) in
        ap to_int is ∙ back (sample_of w l p token) ∙ ap (λ z. sample_of w l z token) seen

-- ---- what is to the left of a column

-- the sample before it, as a number
pub west_is : {X : Type 0} (to_int : X → ℤ) (above : List ℤ) (row : List X) (x : ℕ) (v : X) → 0 < x → x < length row → v ≡ get_or row (x - 1) v → to_int v ≡ west_in above (map to_int row) x
west_is to_int above row zero v later inside is = absurd (omega arith)
west_is to_int above row (suc x) v later inside is =
    let place : suc x - 1 ≡ x = omega arith in
    ap to_int (is ∙ ap (λ k. get_or row k v) place) ∙ sym (get_or-map to_int row x v (pos 0) (omega arith))

-- above left
pub north_west_first : (above row : List ℤ) (x : ℕ) (w : ℤ) → x ≡ 0 → w ≡ west_in above row x → w ≡ north_west_in above row x
north_west_first above row zero w first is = is
north_west_first above row (suc x) w first is = absurd (omega (arith, first))

pub north_west_later : (above row : List ℤ) (x : ℕ) (w v : ℤ) → 0 < x → w ≡ west_in above row x → v ≡ get_or above (x - 1) w → v ≡ north_west_in above row x
north_west_later above row zero w v later is at = absurd (omega arith)
north_west_later above row (suc x) w v later is at =
    let place : suc x - 1 ≡ x = omega arith in
    at ∙ ap (λ k. get_or above k w) place ∙ ap (get_or above x) is

-- two to the left
pub west_west_near : (above row : List ℤ) (x : ℕ) (w : ℤ) → x < 2 → w ≡ west_in above row x → w ≡ west_west_in above row x
west_west_near above row zero w near is = is
west_west_near above row (suc zero) w near is = is
west_west_near above row (suc (suc x)) w near is = absurd (omega arith)

pub west_west_far : {X : Type 0} (to_int : X → ℤ) (above : List ℤ) (row : List X) (x : ℕ) (v : X) → 2 ≤ x → x < length row → v ≡ get_or row (x - 2) v → to_int v ≡ west_west_in above (map to_int row) x
west_west_far to_int above row zero v far inside is = absurd (omega arith)
west_west_far to_int above row (suc zero) v far inside is = absurd (omega arith)
west_west_far to_int above row (suc (suc x)) v far inside is =
    let place : suc (suc x) - 2 ≡ x = omega arith in
    ap to_int (is ∙ ap (λ k. get_or row k v) place) ∙ sym (get_or-map to_int row x v (pos 0) (omega arith))

module _ (above row : List ℤ) where
  west_west_next : (x : ℕ) (left : Left) (v u : ℤ) → x < length row → IsLeft above row x left → (x ≡ 0 → u ≡ v) → (0 < x → u ≡ left.w) → u ≡ west_west_in above (slice_set row x v) (suc x)
  west_west_next zero left v u inside h first later = first refl ∙ sym (get_or-set_same row 0 v (pos 0) inside)
  west_west_next (suc x) left v u inside h first later = later (omega arith) ∙ h.west ∙ sym (get_or-set_other row (suc x) x v (pos 0) (λ e. absurd (omega (arith, e))))

  -- once a number is in the column, that is to the left of the next one
  pub left_next_is : (x : ℕ) (left : Left) (v m u : ℤ) → x < length row → IsLeft above row x left → m ≡ get_or above x v → (x ≡ 0 → u ≡ v) → (0 < x → u ≡ left.w) →
      IsLeft above (slice_set row x v) (x + 1) (record { w = v; nw = m; ww = u })
  left_next_is x left v m u inside h is none some =
      let next : suc x ≡ x + 1 = omega arith in
      let west : v ≡ get_or (slice_set row x v) x (pos 0) = sym (get_or-set_same row x v (pos 0) inside) in
      subst (λ k. IsLeft above (slice_set row x v) k (record { w = v; nw = m; ww = u })) next
      (record { west = west; north_west = is ∙ ap (get_or above x) west; west_west = west_west_next x left v u inside h none some })

-- the same after a sample was written
pub left_written : {X : Type 0} (to_int : X → ℤ) (above : List ℤ) (row : List X) (x : ℕ) (v : X) (z : ℤ) (left : Left) → z ≡ to_int v → IsLeft above (slice_set (map to_int row) x z) (x + 1) left →
    IsLeft above (map to_int (slice_set row x v)) (x + 1) left
left_written to_int above row x v z left is h = subst (λ r. IsLeft above r (x + 1) left) (ap (slice_set (map to_int row) x) is ∙ sym (map-set to_int row x v)) h
