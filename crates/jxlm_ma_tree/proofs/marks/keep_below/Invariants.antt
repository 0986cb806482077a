use Rattle.std.proofs.Common.{length}
use Rattle.jxlm_ma_tree.proofs.CutLists.{MayLeaveBelow}
use Rattle.jxlm_ma_tree.proofs.marks.keep_below.Given as goal

abbrev pub invariant-loop-last : goal.invariant-loop-last
invariant-loop-last l = MayLeaveBelow l.fn.value l.fn.cuts.items l.cuts.items

abbrev pub decreases-loop-last : goal.decreases-loop-last
decreases-loop-last l = length l.cuts.items
