use Rattle.std.proofs.Common.{◌≡◌, length}
use Rattle.jxl_icc.specs.Growth.{extend}
use Rattle.jxl_icc.specs.Header.{header_byte}
use Rattle.jxl_icc.proofs.header.decode_header.Given as goal

abbrev pub invariant-loop-i : goal.invariant-loop-i
invariant-loop-i l = (l.out.items ≡ extend (header_byte l.bytes l.start l.size) l.initial.out.items l.i) × (length l.out.items ≡ l.i)
