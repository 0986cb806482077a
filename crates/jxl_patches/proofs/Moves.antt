-- A coordinate that is coded as how far it lies from the one before.
use Rattle.std.proofs.Common.{◌≡◌, ℕ, ℤ, pos, negsuc, ◌+◌, ◌-◌, ◌/◌, ◌%◌, Bool, true, false, Option, Some, None, refl, ap, arith}
use Rattle.std.specs.Prelude.{◌==◌, nat_lt, if◌then◌else◌, ◌+ℤ◌, ◌↔◌}
use Rattle.std.proofs.lemmas.Int.{ints}
use Rattle.std.proofs.lemmas.Bool.{ltb-true, ltb-false}
use Rattle.jxlm_bits.specs.Numbers.{unpack}
use Rattle.jxl_patches.specs.Patches.{coordinate_of}

module _ (before v c : ℕ) where
  by_tests : (a b : Bool) → nat_lt (v / 2) before ≡ b →
      (if◌then◌else◌ {A = Option ℕ} a (Some (before + v / 2)) (if◌then◌else◌ {A = Option ℕ} b (Some (before - (v / 2 + 1))) None) ≡ Some c) ↔ (pos before +ℤ if◌then◌else◌ {A = ℤ} a (pos (v / 2)) (negsuc (v / 2)) ≡ pos c)
  by_tests true b t =
      ((λ h. let e : before + v / 2 ≡ c = cc in omega (arith, ints, e)), (λ h. let e : before + v / 2 ≡ c = omega (arith, ints, h) in ap Some e))
  by_tests false true t =
      let lt = ltb-true (v / 2) before t in
      ((λ h. let e : before - (v / 2 + 1) ≡ c = cc in omega (arith, ints, e, lt)), (λ h. let e : before - (v / 2 + 1) ≡ c = omega (arith, ints, h, lt) in ap Some e))
  by_tests false false t =
      let ge = ltb-false (v / 2) before t in
      ((λ h. cc), (λ h. absurd (omega (arith, ints, h, ge))))

  pub moved_signed : (coordinate_of true before v ≡ Some c) ↔ (pos before +ℤ unpack v ≡ pos c)
  moved_signed = by_tests (v % 2 == 0) (nat_lt (v / 2) before) refl
