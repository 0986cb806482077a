use Rattle.jxl_blending.specs.SingleGrids.{singles_of}
use Rattle.jxl_blending.proofs.BlendedGrids.{AreRowsBlended}
use Rattle.jxl_blending.proofs.blending.ChannelBlending.blend_grid.Given as goal

abbrev pub invariant-loop-j : goal.invariant-loop-j
invariant-loop-j l = AreRowsBlended l.self l.columns l.rows l.front.samples.now l.front.alpha.now (singles_of l.back_alpha) (singles_of l.fn.picture) (singles_of l.picture) l.j
