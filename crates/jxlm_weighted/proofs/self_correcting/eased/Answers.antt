use Rattle.std.proofs.Common.{◌*◌, ◌<◌, ◌^◌, ◌+◌, ℤ, pos, ◌-ℤ◌, ◌*ℤ◌, unsigned_abs, FitsSigned, arith}
use Rattle.std.specs.Int.{w32, w64, int_shr}
use Rattle.std.proofs.lemmas.Int.{to_z-of_z, ints, fits_signed_from_abs}
use Rattle.jxlm_weighted.proofs.Ranges.{abs_shr}
use Rattle.jxlm_weighted.proofs.self_correcting.eased.Goals as goal

within : (s t : ℤ) → FitsSigned w32 s → unsigned_abs t < 2 ^ 36 + 2 ^ 35 → unsigned_abs (s *ℤ pos 8 -ℤ t) < 2 ^ 37
within s t f h = omega (arith, ints)

pub overflow_sub-result : goal.overflow_sub-result
overflow_sub-result c =
    let i1 : FitsSigned w32 c.args.sample = c.ranges.sample in
    let i2 : FitsSigned w64 c.args.steer = c.ranges.steer in
    let h = c.requires in
    let b = abs_shr c.args.steer (93 * 2 ^ 31 + 62 * 2 ^ 35) c.requires in
    let f1 : FitsSigned w64 c.args.sample = omega (arith, ints) in
    let f2 : FitsSigned w64 (c.args.sample *ℤ pos 8) = omega (arith, ints) in
    let f3 : FitsSigned w64 (int_shr c.args.steer 5) = fits_signed_from_abs w64 _ (omega (arith, b)) in
    let w = within c.args.sample (int_shr c.args.steer 5) i1 (omega (arith, b)) in
    simp to_z-of_z (fits_signed_from_abs w64 _ (omega (arith, w)))

pub returns-clause-value : goal.returns-clause-value
returns-clause-value c =
    let i1 : FitsSigned w32 c.args.sample = c.ranges.sample in
    let i2 : FitsSigned w64 c.args.steer = c.ranges.steer in
    let h = c.requires in
    let b = abs_shr c.args.steer (93 * 2 ^ 31 + 62 * 2 ^ 35) c.requires in
    let f1 : FitsSigned w64 c.args.sample = omega (arith, ints) in
    let f2 : FitsSigned w64 (c.args.sample *ℤ pos 8) = omega (arith, ints) in
    let f3 : FitsSigned w64 (int_shr c.args.steer 5) = fits_signed_from_abs w64 _ (omega (arith, b)) in
    let w = within c.args.sample (int_shr c.args.steer 5) i1 (omega (arith, b)) in
    let f4 : FitsSigned w64 (c.args.sample *ℤ pos 8 -ℤ int_shr c.args.steer 5) = fits_signed_from_abs w64 _ (omega (arith, w)) in
    simp to_z-of_z

pub returns-clause-bound : goal.returns-clause-bound
returns-clause-bound c =
    let h = c.requires in
    let b = abs_shr c.args.steer (93 * 2 ^ 31 + 62 * 2 ^ 35) c.requires in
    rw (returns-clause-value c) (within c.args.sample (int_shr c.args.steer 5) c.ranges.sample (omega (arith, b)))
