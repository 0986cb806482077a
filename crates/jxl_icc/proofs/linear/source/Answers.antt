use Rattle.std.proofs.Common.{◌+◌, ◌-◌, ◌/◌, arith, rules}
use Rattle.jxl_icc.proofs.Bounds.{else_inside}
use Rattle.jxl_icc.proofs.linear.source.Goals as goal

pub returns-else-i-split-clause-inside : goal.returns-else-i-split-clause-inside
returns-else-i-split-clause-inside c =
    let n = c.args.count in
    let columns = (n + c.args.width - 1) / c.args.width in
    else_inside n columns c.args.i (search rules) (omega arith) (omega arith)
