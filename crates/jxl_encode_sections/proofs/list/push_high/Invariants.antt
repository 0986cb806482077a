use Rattle.jxlm_groups.specs.declared.part.Kind.TheVariants as kinds
use Rattle.jxl_codestream.specs.LayoutParts.{parts_of}
use Rattle.jxl_encode_sections.specs.Inner.Groups.{AreMoreGroups}
use Rattle.jxl_encode_sections.proofs.list.push_high.Given as goal

abbrev pub invariant-loop-k : goal.invariant-loop-k
invariant-loop-k l = AreMoreGroups (parts_of l.layout) (kinds.Pass 0) l.k l.initial.groups.items l.groups.items
