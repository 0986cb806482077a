use Rattle.jxl_text.proofs.Names.{size_uncut, size_wide, size_high}
use Rattle.jxl_text.proofs.words.size.Goals as goal

pub returns-in_err-width : goal.returns-in_err-width
returns-in_err-width c = rw c.from_residual.ensures (size_uncut c.args.text.now c.in_err-width.ensures)

pub returns-in_err-side : goal.returns-in_err-side
returns-in_err-side c = rw c.from_residual-in_err-side.ensures (size_wide c.args.text.now _ _ c.in_ok-width.ensures c.in_err-side.ensures)

pub returns-in_err-side-2 : goal.returns-in_err-side-2
returns-in_err-side-2 c = rw c.from_residual-in_err-side-2.ensures (size_high c.args.text.now _ _ c.in_ok-width.ensures c.in_err-side-2.ensures)
