use Rattle.std.proofs.Common.{◌≡◌}
use Rattle.jxl_icc.specs.Growth.{extend}
use Rattle.jxl_icc.specs.Linear.{transposed_byte}
use Rattle.jxl_icc.proofs.pieces.transposed.Given as goal

abbrev pub invariant-loop-i : goal.invariant-loop-i
invariant-loop-i l = l.out.items ≡ extend (transposed_byte l.bytes l.from l.count l.width) l.initial.out.items l.i
