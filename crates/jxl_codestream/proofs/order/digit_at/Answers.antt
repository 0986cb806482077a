use Rattle.std.proofs.Common.{sym}
use Rattle.std.proofs.lemmas.List.{get_or_past}
use Rattle.jxl_codestream.proofs.order.digit_at.Goals as goal

pub returns-else-i-code : goal.returns-else-i-code
returns-else-i-code c = sym (get_or_past c.args.code.now c.args.i 0 c.if-i-code.false)
