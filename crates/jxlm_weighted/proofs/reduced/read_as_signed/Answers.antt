use Rattle.std.proofs.Common.{◌≡◌, ◌%◌, ◌^◌, ap, sym, ◌∙◌, w32, of_z}
use Rattle.std.specs.Int.{int_wrap, cast_signed}
use Rattle.std.proofs.Math.Facts.{of_z-to_z}
use Rattle.std.proofs.Math.Nat.{mod-eq_of_lt}
use Rattle.jxlm_weighted.proofs.reduced.read_as_signed.Goals as goal

pub returns : goal.returns
unfolding int_wrap
returns c =
    let same : c.args.number % 2 ^ 32 ≡ c.args.number = mod-eq_of_lt c.ranges.number.fits in
    ap (cast_signed w32) (ap (of_z w32) c.cast_signed.ensures ∙ of_z-to_z {w = w32} {n = c.args.number} c.ranges.number ∙ sym same)
