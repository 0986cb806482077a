use Rattle.std.proofs.Common.{◌<◌, arith, sym}
use Rattle.jxl_icc.proofs.Bounds.{low_below, high_below, high_small, number_fails}
use Rattle.jxl_icc.proofs.numbers.+within.Goals as goal

pub returns-then-low-lt128-clause-below : goal.returns-then-low-lt128-clause-below
returns-then-low-lt128-clause-below t c = low_below c.args.most c.from-low.result (omega arith) (omega arith)

pub overflow_mul-result : goal.overflow_mul-result
overflow_mul-result t c =
    let s : c.in-Ok.high.value < 72057594037927936 = high_small c.args.most c.in-Ok.high.value (omega arith) c.requires.few c.in-Ok.ensures.below in
    omega arith

pub overflow_add-result-in-Ok : goal.overflow_add-result-in-Ok
overflow_add-result-in-Ok t c =
    let s : c.in-Ok.high.value < 72057594037927936 = high_small c.args.most c.in-Ok.high.value (omega arith) c.requires.few c.in-Ok.ensures.below in
    omega (arith, c.type_inv.bytes c.args.start, c.from-low.ensures)

pub returns-in-Ok-clause-below : goal.returns-in-Ok-clause-below
returns-in-Ok-clause-below t c =
    high_below c.args.most c.from-low.result c.in-Ok.high.value (omega arith) (omega (arith, c.type_inv.bytes c.args.start, c.from-low.ensures)) c.in-Ok.ensures.below

pub returns-in-Err-clause-gives : goal.returns-in-Err-clause-gives
returns-in-Err-clause-gives t c =
    number_fails c.args.bytes.now c.args.end c.args.most c.args.start c.in-Err.error (omega arith) (omega arith) (omega (arith, c.from-low.ensures)) (sym c.in-Err.ensures.gives)
