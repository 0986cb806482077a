use Rattle.std.proofs.Common.{◌≡◌, ◌≢◌, length, take, All}
use Rattle.jxlm_groups.specs.declared.part.SectionPart.TheVariants as parts
use Rattle.jxl_codestream.specs.LayoutParts.{parts_of}
use Rattle.jxl_codestream.specs.Layouts.{section_count_of}
use Rattle.jxl_encode_frame.specs.Numbers.{section_among}
use Rattle.jxl_coding_build.specs.AnyWriters.{codes_in}
use Rattle.jxl_encode_sections.specs.Inner.Groups.{HasSection}
use Rattle.jxl_encode_sections.proofs.groups.put_groups.Given as goal

abbrev pub invariant-loop-group : goal.invariant-loop-group
invariant-loop-group l =
    (length l.sections.items ≡ section_count_of (parts_of l.layout))
    × All (λ p. HasSection (codes_in l.codes) (parts_of l.layout) l.groups l.sections.items p.part) (take l.group-index l.groups)
    × (All (λ p. p.part ≢ parts.Global) l.groups → section_among (parts_of l.layout) l.sections.items parts.Global ≡ section_among (parts_of l.layout) l.initial.sections.items parts.Global)
