use Rattle.std.proofs.Common.{◌≡◌, ◌++◌, map, take}
use Rattle.jxl_codestream_write.specs.StillFronts.{joined}
use Rattle.jxl_encode.proofs.sizes.add_sections.Given as goal

abbrev pub invariant-loop-section : goal.invariant-loop-section
invariant-loop-section l = l.bytes.items ≡ l.initial.bytes.items ++ joined (map (λ s. s.items) (take l.section-index l.sections))
