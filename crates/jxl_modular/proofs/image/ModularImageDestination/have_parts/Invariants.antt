use Rattle.std.proofs.Common.{◌≢◌, take}
use Rattle.std.specs.List.{All, AllPairs}
use Rattle.jxl_modular.specs.Groups.{Exists}
use Rattle.jxl_modular.proofs.SectionParts.{HoldsAll}
use Rattle.jxl_modular.proofs.image.ModularImageDestination.have_parts.Given as goal

abbrev pub invariant-loop-section : goal.invariant-loop-section
invariant-loop-section g l = record {
  seen : HoldsAll l.seen (take l.section-index l.sections);
  exist : All (λ s. Exists l.self l.passes s.part) (take l.section-index l.sections);
  unlike : AllPairs (λ s t. s.part ≢ t.part) (take l.section-index l.sections);
}
