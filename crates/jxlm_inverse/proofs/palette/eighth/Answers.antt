use Rattle.std.proofs.Common.{arith}
use Rattle.jxlm_inverse.proofs.PaletteColours.{eighth_power}
use Rattle.jxlm_inverse.proofs.palette.eighth.Goals as goal

pub returns-clause-bound : goal.returns-clause-bound
returns-clause-bound c =
    let less = c.saturating_sub.ensures in
    let bound = eighth_power c.saturating_sub.result (omega arith) in
    omega arith
