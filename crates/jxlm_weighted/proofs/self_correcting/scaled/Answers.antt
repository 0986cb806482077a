use Rattle.std.proofs.Common.{◌≡◌, ◌<◌, ◌^◌, ℤ, pos, ◌*ℤ◌, unsigned_abs, FitsSigned, refl, arith, ℕ, to_z}
use Rattle.std.specs.Int.{w64}
use Rattle.std.proofs.lemmas.Int.{to_z-of_z, to_z_pos, fits_signed_from_abs}
use Rattle.jxlm_weighted.proofs.Ranges.{abs_mul}
use Rattle.jxlm_weighted.proofs.self_correcting.scaled.Goals as goal

pub overflow_mul-result : goal.overflow_mul-result
overflow_mul-result c =
    let v = c.ranges.value in
    let e : to_z w64 c.args.factor ≡ pos c.args.factor = to_z_pos w64 c.args.factor (let h = c.requires.few in omega arith) in
    let m = abs_mul c.args.value c.args.factor (2 ^ 37) 31 (let h = c.requires.small in omega arith) (let h = c.requires.few in omega arith) in
    rw (to_z-of_z w64 c.args.value c.ranges.value, e) (fits_signed_from_abs w64 _ (omega arith))

product-fits : (z : ℤ) (n : ℕ) → unsigned_abs z < 2 ^ 37 → n < 32 → FitsSigned w64 (z *ℤ pos n)
product-fits z n h l = let m = abs_mul z n (2 ^ 37) 31 (omega arith) (omega arith) in fits_signed_from_abs w64 _ (omega arith)

pub returns-clause-value : goal.returns-clause-value
returns-clause-value c =
    let e : to_z w64 c.args.factor ≡ pos c.args.factor = to_z_pos w64 c.args.factor (let h = c.requires.few in omega arith) in
    rw (to_z-of_z w64 c.args.value c.ranges.value, e, to_z-of_z w64 (c.args.value *ℤ pos c.args.factor) (product-fits c.args.value c.args.factor c.requires.small c.requires.few)) refl

pub returns-clause-bound : goal.returns-clause-bound
returns-clause-bound c =
    let m = abs_mul c.args.value c.args.factor (unsigned_abs c.args.value) 31 (omega arith) (let h = c.requires.few in omega arith) in
    rw (returns-clause-value c) (omega arith)
