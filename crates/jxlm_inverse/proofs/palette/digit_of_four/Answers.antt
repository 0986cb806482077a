use Rattle.std.proofs.Common.{sym, arith}
use Rattle.jxlm_inverse.proofs.PaletteColours.{no_digit}
use Rattle.jxlm_inverse.proofs.palette.digit_of_four.Goals as goal

pub returns-else-c-lt3-clause-value : goal.returns-else-c-lt3-clause-value
returns-else-c-lt3-clause-value c = sym (no_digit 4 c.args.c 3 c.args.j (omega arith) (omega arith) (omega arith))
