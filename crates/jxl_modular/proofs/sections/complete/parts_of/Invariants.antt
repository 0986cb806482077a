use Rattle.std.proofs.Common.{take}
use Rattle.jxl_modular.proofs.SectionParts.{HoldsAll}
use Rattle.jxl_modular.proofs.sections.complete.parts_of.Given as goal

abbrev pub invariant-loop-section : goal.invariant-loop-section
invariant-loop-section l = HoldsAll l.parts (take l.section-index l.sections)
