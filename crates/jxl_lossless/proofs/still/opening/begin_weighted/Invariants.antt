use Rattle.std.proofs.Common.{◌≡◌, false, take}
use Rattle.std.specs.List.{list_any}
use Rattle.jxl_lossless.specs.Inner.Weighted.{section_is_weighted}
use Rattle.jxl_lossless.proofs.still.opening.begin_weighted.Given as goal

abbrev pub invariant-loop-section : goal.invariant-loop-section
invariant-loop-section l = list_any section_is_weighted (take l.section-index l.sections) ≡ false
