use Rattle.std.proofs.Common.{arith}
use Rattle.std.proofs.lemmas.Grind.{common_steps}
use Rattle.jxl_text.proofs.TextLemmas.{image_text-more}
use Rattle.jxl_text.proofs.printing.print_image.Goals as goal

pub loop-number-preserved : goal.loop-number-preserved
loop-number-preserved g c = grind (arith, common_steps, image_text-more)
