-- The passes of a frame can cut an image: each shift below 3 is held by one of them.
use Rattle.std.proofs.Common.{◌≡◌, ℕ, zero, suc, ◌+◌, ◌<◌, ◌≤◌, ◌==◌, ◌&&◌, ◌||◌, not, inl, inr, Bool, true, false, ℤ, pos, List, [], length, map, refl, sym, ap, ◌∙◌, subst, arith, eq-eqb}
use Rattle.std.specs.List.{list_all, list_any, range_with_len}
use Rattle.std.specs.Prelude.{nat_le, int_le, int_lt}
use Rattle.std.proofs.lemmas.Bool.{cases_lt, le-leb, lt-ltb, ne_eqb}
use Rattle.std.proofs.lemmas.List.{length-map}
use Rattle.std.proofs.lemmas.List.FromFn.{length-range_with_len}
use Rattle.jxlm_groups.specs.Passes.{can_group, holds, passes_of as ranges_of}
use Rattle.jxlm_groups.specs.declared.pass.Pass.{Pass}
use Rattle.jxl_frame_header.specs.Passes.{IsPassCount, Passes, least_shift, pass_shifts}

module _ (x : Passes) where
  entry : ℕ → ℕ × (ℤ × ℤ)
  entry p = (p, (pos (least_shift x (suc p)), pos (least_shift x p)))

  -- n passes from one on
  abbrev ranges : ℕ → ℕ → List Pass
  ranges a n = ranges_of (map (λ p. (p, (pos (least_shift x (suc p)), pos (least_shift x p)))) (range_with_len a n))

  -- their numbers are small
  all_small : (a n : ℕ) → a + n ≤ 256 → list_all (λ p. nat_le p.number 255) (ranges a n) ≡ true
  all_small a zero le = refl
  all_small a (suc n) le =
      let first : nat_le a 255 ≡ true = le-leb a 255 (omega (arith, le)) in
      rw first (all_small (a + 1) n (omega (arith, le)))

  or_true : (a b : Bool) → b ≡ true → (a || b) ≡ true
  or_true true b e = refl
  or_true false b e = e

  -- a shift that is not held before them, and is after them, is held by one
  held : (m a n : ℕ) → m < least_shift x a → least_shift x (a + n) ≤ m → list_any (holds (pos m)) (ranges a n) ≡ true
  held m a zero above below =
      let same : a + 0 ≡ a = omega arith in
      let b : least_shift x a ≤ m = subst (λ k. least_shift x k ≤ m) same below in
      absurd (omega (arith, above, b))
  held m a (suc n) above below = elim (cases_lt m (least_shift x (suc a))) [
    | inl lt ↦
        let next : suc a ≡ a + 1 = omega arith in
        let rest : a + suc n ≡ a + 1 + n = omega arith in
        or_true _ (list_any (holds (pos m)) (ranges (a + 1) n)) (held m (a + 1) n (subst (λ k. m < least_shift x k) next lt) (subst (λ k. least_shift x k ≤ m) rest below))
    | inr ge ↦
        let one : int_le (pos (least_shift x (suc a))) (pos m) ≡ true = le-leb (least_shift x (suc a)) m ge in
        let two : int_lt (pos m) (pos (least_shift x a)) ≡ true = lt-ltb m (least_shift x a) above in
        rw (one, two) refl
  ]

  -- after the last pass all are
  last : (n : ℕ) → x.num_passes ≡ n → 0 < n → least_shift x n ≡ 0
  last zero is some = absurd (omega (arith, some))
  last (suc n) is some =
      let same : (suc n == x.num_passes) ≡ true = eq-eqb (suc n) x.num_passes (sym is) in
      rw same refl

  each : 0 < x.num_passes → (m : ℕ) → m < 3 → list_any (holds (pos m)) (ranges 0 x.num_passes) ≡ true
  each some m lt =
      let same : x.num_passes ≡ 0 + x.num_passes = omega arith in
      let none : least_shift x x.num_passes ≡ 0 = last x.num_passes refl some in
      held m 0 x.num_passes lt (subst (λ k. least_shift x k ≤ m) same (omega (arith, none)))

  some_passes : 0 < x.num_passes → not (length (ranges 0 x.num_passes) == 0) ≡ true
  some_passes some =
      let n : length (ranges 0 x.num_passes) ≡ x.num_passes = length-map _ _ ∙ length-map (range_with_len 0 x.num_passes) _ ∙ length-range_with_len 0 x.num_passes in
      ap not (ne_eqb (length (ranges 0 x.num_passes)) 0 (λ e. omega (arith, n, e, some)))

pub can_be_cut : (x : Passes) → IsPassCount x.num_passes → (entries : List (ℕ × (ℤ × ℤ))) → entries ≡ pass_shifts x → can_group (ranges_of entries) [] ≡ true
can_be_cut x count entries are =
    subst (λ (es : List (ℕ × (ℤ × ℤ))). can_group (ranges_of es) [] ≡ true) (sym are)
    (all_four (not (length (ranges x 0 x.num_passes) == 0)) (list_all (λ p. nat_le p.number 255) (ranges x 0 x.num_passes)) (list_any (holds (pos 0)) (ranges x 0 x.num_passes)) (list_any (holds (pos 1)) (ranges x 0 x.num_passes)) (list_any (holds (pos 2)) (ranges x 0 x.num_passes))
    (some_passes x count.some) (all_small x 0 x.num_passes (let few = count.few in omega (arith, few))) (each x count.some 0 (omega arith)) (each x count.some 1 (omega arith)) (each x count.some 2 (omega arith))) where
      all_four : (a b c d e : Bool) → a ≡ true → b ≡ true → c ≡ true → d ≡ true → e ≡ true → (true && a && b && (c && d && e)) ≡ true
      all_four a b c d e p q r s t = rw (p, q, r, s, t) refl
