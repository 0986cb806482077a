use Rattle.std.proofs.Common.{take}
use Rattle.jxl_text.specs.Inner.Cuts.{Lacks}
use Rattle.jxl_text.proofs.cut.cut.Given as goal

abbrev pub invariant-loop-i : goal.invariant-loop-i
invariant-loop-i l = Lacks l.byte (take l.i l.text)
