use Rattle.std.proofs.Common.{◌≡◌, ◌++◌, length}
use Rattle.jxlm_ma_tree.proofs.marks.prepend.Given as goal

abbrev pub invariant-loop-cut : goal.invariant-loop-cut
invariant-loop-cut l = l.below.items ++ l.cuts.items ≡ l.fn.below.items ++ l.fn.cuts.items

abbrev pub decreases-loop-cut : goal.decreases-loop-cut
decreases-loop-cut l = length l.below.items
