use Rattle.std.proofs.Common.{◌≡◌, map, take, All}
use Rattle.jxl_codestream.specs.LayoutParts.{parts_of}
use Rattle.jxl_encode_image.specs.Images.{samples_in}
use Rattle.jxlm_transform.specs.Lists.{list_of}
use Rattle.jxl_encode_sections.specs.Inner.Groups.{HaveTokens}
use Rattle.jxl_encode_sections.proofs.groups.tokens_of_parts.Given as goal

abbrev pub invariant-loop-part : goal.invariant-loop-part
invariant-loop-part g l =
    (map (λ p. p.part) l.all.items ≡ take l.part-index l.parts)
    × All (HaveTokens g.S.Sealed.width l.image.group_dim l.passes (record { list = list_of l.image.coded.now.channels; samples = samples_in g.S.Sealed.to_int l.image.coded.now.channels l.image.coded.now.store.items }) l.image.config.now.tree (parts_of l.image.layout.now)) l.all.items
