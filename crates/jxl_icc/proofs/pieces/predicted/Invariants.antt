use Rattle.std.proofs.Common.{◌≡◌, ◌+◌, length}
use Rattle.jxl_icc.specs.Growth.{extend}
use Rattle.jxl_icc.specs.Linear.{predicted_byte}
use Rattle.jxl_icc.proofs.pieces.predicted.Given as goal

abbrev pub invariant-loop-i : goal.invariant-loop-i
invariant-loop-i l = (l.out.items ≡ extend (predicted_byte l.bytes l.from l.count l.by l.start) l.initial.out.items l.i) × (length l.out.items ≡ l.start + l.i)
