use Rattle.std.proofs.Common.{◌∙◌, arith}
use Rattle.jxl_picture.proofs.Shifts.{shifted_far}
use Rattle.jxl_c_picture.proofs.channels.shifted.Goals as goal

pub returns-else-shift-lt32 : goal.returns-else-shift-lt32
returns-else-shift-lt32 c = c.min.ensures ∙ shifted_far c.args.shift c.args.side (omega arith) (omega arith)
