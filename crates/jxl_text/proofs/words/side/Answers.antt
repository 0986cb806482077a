use Rattle.std.proofs.Common.{arith}
use Rattle.jxl_text.proofs.Names.{side_large}
use Rattle.jxl_text.proofs.words.side.Goals as goal

pub returns-then-side : goal.returns-then-side
returns-then-side c = side_large c.args.word.now c.in_ok-side.side c.in_ok-side.ensures (omega arith) (omega arith)
