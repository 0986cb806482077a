use Rattle.std.proofs.Common.{◌≡◌, ◌+◌, drop, false}
use Rattle.jxl_netpbm_read.specs.Words.{gap as the_gap}
use Rattle.jxl_netpbm_read.proofs.words.gap.Given as goal

abbrev pub invariant-loop-i : goal.invariant-loop-i
invariant-loop-i l = the_gap false l.text ≡ l.i + the_gap l.comment (drop l.i l.text)
