use Rattle.std.proofs.Common.{get_or, take}
use Rattle.jxl_patches.specs.Patches.{nowhere}
use Rattle.jxl_patches_write.specs.Inner.Given.{AddsTokens, GivePlaces}
use Rattle.jxl_patches_write.proofs.runs.add_places.Given as goal

abbrev pub invariant-loop-n : goal.invariant-loop-n
invariant-loop-n l = AddsTokens l.fn.tokens.items l.tokens.items (GivePlaces l.kinds (get_or l.run 0 nowhere).source l.n (take l.n l.run))
