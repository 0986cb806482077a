use Rattle.jxl_blending.proofs.BlendedRows.{IsPartlyBlended}
use Rattle.jxl_blending.proofs.blending.ChannelBlending.blend_row.Given as goal

abbrev pub invariant-loop-i : goal.invariant-loop-i
invariant-loop-i l = IsPartlyBlended l.self l.start l.i l.front l.front_alpha l.back_alpha l.fn.cells l.cells
