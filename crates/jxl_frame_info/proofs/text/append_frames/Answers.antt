use Rattle.std.proofs.Common.{arith}
use Rattle.std.proofs.lemmas.Grind.{common_steps}
use Rattle.jxl_frame_info.proofs.Lines.{frame_lines-more}
use Rattle.jxl_frame_info.proofs.text.append_frames.Goals as goal

pub loop-number-preserved : goal.loop-number-preserved
loop-number-preserved c = grind (arith, common_steps, frame_lines-more)
