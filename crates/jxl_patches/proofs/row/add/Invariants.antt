use Rattle.std.proofs.Common.{◌+ℤ◌, pos, get_or, w32}
use Rattle.std.specs.Int.{int_wrap}
use Rattle.jxl_patches.specs.Inner.Rows.{IsRowMixed}
use Rattle.jxl_patches.proofs.row.add.Given as goal

abbrev pub invariant-loop-i : goal.invariant-loop-i
invariant-loop-i l = IsRowMixed (λ i v. int_wrap w32 (v +ℤ get_or l.from i (pos 0))) l.start l.i l.fn.row l.row
