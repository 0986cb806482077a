use Rattle.std.proofs.Common.{◌≡◌, take}
use Rattle.jxl_lossless.specs.Places.{lent}
use Rattle.jxl_lossless.specs.Inner.Cuts.{sections_of}
use Rattle.jxl_lossless.proofs.sections.sections.Given as goal

abbrev pub invariant-loop-entry : goal.invariant-loop-entry
invariant-loop-entry l = lent l.list.items ≡ sections_of l.bytes (take l.entry-index l.entries)
