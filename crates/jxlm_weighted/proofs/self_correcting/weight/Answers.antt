use Rattle.std.proofs.Common.{◌^◌, ◌<◌, arith}
use Rattle.jxlm_weighted.proofs.Ranges.{in_table}
use Rattle.jxlm_weighted.proofs.self_correcting.weight.Goals as goal

pub reciprocal-requires-clause-listed : goal.reciprocal-requires-clause-listed
reciprocal-requires-clause-listed c =
    let small : c.args.sum < 2 ^ 32 = omega arith in
    rw c.floor_log2-shift.ensures.value (in_table c.args.sum small).1
