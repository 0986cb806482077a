-- Machine numbers of 32 and 64 bits as whole numbers, and their differences.
use Rattle.std.proofs.Common.{◌≡◌, ℕ, ◌^◌, ◌<◌, ℤ, pos, ◌-ℤ◌, int_div, unsigned_abs, FitsSigned, to_z, of_z, w32, w64, List, length, map, get_or, refl, sym, ap, ◌∙◌, subst, arith}
use Rattle.std.specs.Int.{Width, int_wrap}
use Rattle.std.proofs.lemmas.Int.{ints, to_z-of_z, quot_fits}
use Rattle.std.proofs.lemmas.List.{length-map, get_or_default}
use Rattle.std.proofs.Math.ListN.{get_or-map}
use Rattle.jxlm_lanes.specs.Squeeze.{tendency, difference, average}
use Rattle.jxlm_encode_transform.specs.Inner.Lines.{number_in}

-- a number of 32 bits, as it is handed on
pub same32 : (p a : ℤ) → FitsSigned w32 p → p ≡ a → to_z w32 (of_z w32 p) ≡ a
same32 p a fits is = to_z-of_z w32 p fits ∙ is

-- the difference of two numbers of 64 bits that are far below their range
pub same_difference : (f g : ℤ) → unsigned_abs f < 2 ^ 34 → unsigned_abs g < 2 ^ 34 →
    to_z w64 (of_z w64 (to_z w64 (of_z w64 f) -ℤ to_z w64 (of_z w64 g))) ≡ f -ℤ g
same_difference f g small_f small_g =
    let wide_f : FitsSigned w64 f = omega (arith, ints, small_f) in
    let wide_g : FitsSigned w64 g = omega (arith, ints, small_g) in
    let wide : FitsSigned w64 (f -ℤ g) = omega (arith, ints, small_f, small_g) in
    rw (to_z-of_z w64 f wide_f, to_z-of_z w64 g wide_g) (to_z-of_z w64 (f -ℤ g) wide)

-- and it fits
pub difference_fits : (f g : ℤ) → unsigned_abs f < 2 ^ 34 → unsigned_abs g < 2 ^ 34 → FitsSigned w64 (to_z w64 (of_z w64 f) -ℤ to_z w64 (of_z w64 g))
difference_fits f g small_f small_g =
    let wide_f : FitsSigned w64 f = omega (arith, ints, small_f) in
    let wide_g : FitsSigned w64 g = omega (arith, ints, small_g) in
    rw (to_z-of_z w64 f wide_f, to_z-of_z w64 g wide_g) (omega (arith, ints, small_f, small_g))

pub small32 : (f p : ℤ) → FitsSigned w32 p → f ≡ to_z w32 (of_z w32 p) → unsigned_abs f < 2 ^ 34
small32 f p fits e = subst (λ z. unsigned_abs z < 2 ^ 34) (sym (e ∙ to_z-of_z w32 p fits)) (omega (arith, ints, fits))

-- the difference of two samples, and the average of a pair with this difference
module _ (w : Width) (a b p q f g : ℤ) (fp : FitsSigned w32 p) (fq : FitsSigned w32 q) (pa : p ≡ a) (ef : f ≡ to_z w32 (of_z w32 p)) where
  pub difference_is : q ≡ b → g ≡ to_z w32 (of_z w32 q) → int_wrap w (to_z w64 (of_z w64 (to_z w64 (of_z w64 f) -ℤ to_z w64 (of_z w64 g)))) ≡ difference w a b
  difference_is qb eg =
      ap (int_wrap w) (same_difference f g (small32 f p fp ef) (small32 g q fq eg))
      ∙ ap (λ x. int_wrap w (x -ℤ g)) (ef ∙ same32 p a fp pa) ∙ ap (λ y. int_wrap w (a -ℤ y)) (eg ∙ same32 q b fq qb)

  pub average_is : q ≡ difference w a b → g ≡ to_z w32 (of_z w32 (int_div (to_z w32 (of_z w32 q)) (pos 2))) →
      int_wrap w (to_z w64 (of_z w64 (to_z w64 (of_z w64 f) -ℤ to_z w64 (of_z w64 g)))) ≡ average w a b
  average_is qd eg =
      let fh : FitsSigned w32 (int_div q (pos 2)) = quot_fits w32 q (pos 2) fq (omega arith) in
      let at_half : g ≡ to_z w32 (of_z w32 (int_div q (pos 2))) = eg ∙ ap (λ z. to_z w32 (of_z w32 (int_div z (pos 2)))) (to_z-of_z w32 q fq) in
      ap (int_wrap w) (same_difference f g (small32 f p fp ef) (small32 g (int_div q (pos 2)) fh at_half))
      ∙ ap (λ x. int_wrap w (x -ℤ g)) (ef ∙ same32 p a fp pa)
      ∙ ap (λ y. int_wrap w (a -ℤ y)) (at_half ∙ same32 (int_div q (pos 2)) (int_div q (pos 2)) fh refl)
      ∙ ap (λ y. int_wrap w (a -ℤ int_div y (pos 2))) qd

-- the residual of a pair whose difference is d, between these samples
pub residual_is : (w : Width) (d before own next q f t p1 p2 p3 : ℤ) → FitsSigned w32 q → FitsSigned w32 p1 → FitsSigned w32 p2 → FitsSigned w32 p3 →
    q ≡ d → p1 ≡ before → p2 ≡ own → p3 ≡ next → f ≡ to_z w32 (of_z w32 q) →
    t ≡ tendency (to_z w32 (of_z w32 p1)) (to_z w32 (of_z w32 p2)) (to_z w32 (of_z w32 p3)) → unsigned_abs t < 2 ^ 33 →
    int_wrap w (to_z w64 (of_z w64 (to_z w64 (of_z w64 f) -ℤ to_z w64 (of_z w64 t)))) ≡ int_wrap w (d -ℤ tendency before own next)
residual_is w d before own next q f t p1 p2 p3 fq f1 f2 f3 qd e1 e2 e3 ef et small =
    ap (int_wrap w) (same_difference f t (small32 f q fq ef) (omega (arith, small)))
    ∙ ap (λ x. int_wrap w (x -ℤ t)) (ef ∙ same32 q d fq qd)
    ∙ ap (λ y. int_wrap w (d -ℤ y)) (et ∙ ap (λ x. tendency x (to_z w32 (of_z w32 p2)) (to_z w32 (of_z w32 p3))) (same32 p1 before f1 e1)
    ∙ ap (λ x. tendency before x (to_z w32 (of_z w32 p3))) (same32 p2 own f2 e2) ∙ ap (tendency before own) (same32 p3 next f3 e3))

-- the number of element i of a line
pub number_is : {S : Type 0} (to_int : S → ℤ) (line : List S) (i : ℕ) (x : S) → i < length line → x ≡ get_or line i x → to_int x ≡ number_in to_int line i
number_is to_int line i x lt is =
    let long = length-map line to_int in
    ap to_int is ∙ sym (get_or-map to_int line i x) ∙ get_or_default (map to_int line) i (to_int x) (pos 0) (omega (arith, long, lt))
