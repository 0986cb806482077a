use Rattle.std.proofs.Common.{arith}
use Rattle.jxl_text.proofs.Names.{index_none, index_other, number_large, sizes_give}
use Rattle.jxl_text.proofs.words.sides.Goals as goal
use Rattle.jxl_text.proofs.words.sides.Goals.{then-number-via-then-number, then-number-via-else-number+then-index-number}

pub returns-in_err-index-2 : goal.returns-in_err-index-2
returns-in_err-index-2 c =
    rw c.from_residual-in_err-index-2.ensures (index_none c.args.line.now _ _ _ c.args.number c.in_ok-rest.ensures c.in_ok-index.ensures c.in_err-index-2.ensures)

pub returns-then-number : goal.returns-then-number
returns-then-number c =
    elim c.then-number.branch [
      | then-number-via-then-number w ↦ number_large c.args.line.now c.args.number (omega arith)
      | then-number-via-else-number+then-index-number w ↦
          index_other c.args.line.now _ _ _ c.args.number c.in_ok-index-2.index c.in_ok-rest.ensures c.in_ok-index.ensures c.in_ok-index-2.ensures (omega arith) w.if-index-number.true
    ]

pub returns : goal.returns
returns c =
    sizes_give c.args.line.now _ _ _ c.args.number c.in_ok-index-2.index c.size.result c.in_ok-rest.ensures c.in_ok-index.ensures c.in_ok-index-2.ensures c.if-index-number.false (omega arith) c.size.ensures
