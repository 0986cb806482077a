use Rattle.std.proofs.Common.{◌<◌, ◌^◌, arith, unsigned_abs}
use Rattle.std.proofs.lemmas.Int.{to_z-of_z, ints}
use Rattle.jxlm_base.proofs.Wraps.{cast_signed-wraps_i32}
use Rattle.jxlm_weighted.proofs.reduced.reduced_absolute.Goals as goal

pub returns : goal.returns
returns c =
    let small : unsigned_abs c.args.value < 2 ^ 32 = omega (arith, ints) in
    let e = cast_signed-wraps_i32 (unsigned_abs c.args.value) small in
    grind (arith, to_z-of_z, e)
