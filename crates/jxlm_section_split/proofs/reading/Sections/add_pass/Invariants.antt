use Rattle.jxl_modular.specs.GroupParts.{image_of}
use Rattle.jxlm_section_split.specs.CutPicture.{pass_groups, with_samples}
use Rattle.jxlm_section_split.specs.Splitting.{AreAdded}
use Rattle.jxlm_section_split.proofs.reading.Sections.add_pass.Given as goal

abbrev pub invariant-loop-group : goal.invariant-loop-group
invariant-loop-group g l = AreAdded (with_samples (image_of l.groups) (pass_groups l.group)) l.initial.self.list.items l.initial.self.rest.now l.self.list.items l.self.rest.now
