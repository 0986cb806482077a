use Rattle.jxl_patches.proofs.PatchedLaws.{uncovered, replaced}
use Rattle.jxl_patches.proofs.laws.patches_leave_the_last.Goals as goal

pub returns : goal.returns
returns c = record {
  uncovered = λ t x y n samples c h. uncovered t x y samples c n h;
  replaced = λ t x y n m samples c lt h r after. replaced t x y samples c n m lt h r after;
}
