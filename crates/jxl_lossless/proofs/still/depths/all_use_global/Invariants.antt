use Rattle.std.proofs.Common.{take}
use Rattle.std.specs.List.{All}
use Rattle.jxl_lossless.specs.Inner.Depths.{UsesGlobal}
use Rattle.jxl_lossless.proofs.still.depths.all_use_global.Given as goal

abbrev pub invariant-loop-section : goal.invariant-loop-section
invariant-loop-section l = All UsesGlobal (take l.section-index l.sections)
