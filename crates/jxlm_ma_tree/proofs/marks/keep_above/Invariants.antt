use Rattle.std.proofs.Common.{length}
use Rattle.jxlm_ma_tree.proofs.CutLists.{MayLeaveAbove}
use Rattle.jxlm_ma_tree.proofs.marks.keep_above.Given as goal

abbrev pub invariant-loop-first : goal.invariant-loop-first
invariant-loop-first l = MayLeaveAbove l.fn.value l.fn.cuts.items l.cuts.items

abbrev pub decreases-loop-first : goal.decreases-loop-first
decreases-loop-first l = length l.cuts.items
