use Rattle.std.proofs.Common.{sym, arith}
use Rattle.jxlm_inverse.proofs.PaletteColours.{no_digit}
use Rattle.jxlm_inverse.proofs.palette.digit_of_five.Goals as goal

pub returns-else-c-lt14-clause-value : goal.returns-else-c-lt14-clause-value
returns-else-c-lt14-clause-value c = sym (no_digit 5 c.args.c 14 c.args.j (omega arith) (omega arith) (omega arith))
