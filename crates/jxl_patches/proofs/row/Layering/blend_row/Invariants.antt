use Rattle.jxl_patches.specs.Inner.Rows.{IsRowMixed, layered_row}
use Rattle.jxl_patches.proofs.row.Layering.blend_row.Given as goal

abbrev pub invariant-loop-i : goal.invariant-loop-i
invariant-loop-i l = IsRowMixed (layered_row l.self.blending l.self.below l.from l.from_alpha l.alpha) l.start l.i l.fn.row l.row
