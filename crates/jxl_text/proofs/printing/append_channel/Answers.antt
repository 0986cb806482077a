use Rattle.std.proofs.Common.{arith}
use Rattle.std.proofs.lemmas.Grind.{common_steps}
use Rattle.jxl_text.proofs.TextLemmas.{rows_text-more}
use Rattle.jxl_text.proofs.printing.append_channel.Goals as goal

pub loop-y-preserved : goal.loop-y-preserved
loop-y-preserved g c = grind (arith, common_steps, rows_text-more)
