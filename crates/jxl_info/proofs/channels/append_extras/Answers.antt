use Rattle.std.proofs.Common.{arith}
use Rattle.std.proofs.lemmas.Grind.{common_steps}
use Rattle.jxl_info.proofs.Lines.{extra_lines-more}
use Rattle.jxl_info.proofs.channels.append_extras.Goals as goal

pub loop-number-preserved : goal.loop-number-preserved
loop-number-preserved c = grind (arith, common_steps, extra_lines-more)
