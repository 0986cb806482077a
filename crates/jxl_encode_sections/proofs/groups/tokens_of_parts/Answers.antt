use Rattle.std.proofs.Common.{ℕ, length, get_or, ◌<◌, refl, subst, arith}
use Rattle.jxlm_groups.specs.declared.part.SectionPart.TheVariants as parts
use Rattle.jxlm_transform.specs.Lists.{list_of}
use Rattle.jxl_codestream.specs.LayoutParts.{parts_of}
use Rattle.jxl_encode_image.specs.Images.{samples_in}
use Rattle.jxl_encode_sections.specs.Inner.Groups.{HaveTokens}
use Rattle.jxl_encode_sections.specs.Inner.Parts.{AreTokensIn, CodedSamples}
use Rattle.jxl_encode_sections.specs.declared.parts.PartTokens.{PartTokens}
use Rattle.jxl_encode_sections.proofs.TokenParts.{one_more_part}
use Rattle.jxl_encode_sections.proofs.groups.tokens_of_parts.Goals as goal

pub loop-part-preserved : goal.loop-part-preserved
loop-part-preserved g c =
    let image = c.args.image.now in
    let coded : CodedSamples = record { list = list_of image.coded.now.channels; samples = samples_in g.S.Sealed.to_int image.coded.now.channels image.coded.now.store.items } in
    let part = get_or c.args.parts.now c.loop-part.part-index parts.Global in
    let p : PartTokens = record { part = part; tokens = c.in_ok-tokens.tokens } in
    let lt : c.loop-part.part-index < length c.args.parts.now = omega (arith, c.loop-part-test.true) in
    one_more_part (HaveTokens g.S.Sealed.width image.group_dim c.args.passes.now coded image.config.now.tree (parts_of image.layout.now)) c.loop-part.all.items c.push.new.self.items c.args.parts.now c.loop-part.part-index
    parts.Global p lt refl c.in_ok-push.ensures.items c.loop-part.invariant.0 c.loop-part.invariant.1
    (subst (λ (n : ℕ). AreTokensIn g.S.Sealed.width image.group_dim c.args.passes.now coded image.config.now.tree part n c.in_ok-tokens.tokens.items) c.stream-stream.ensures c.in_ok-tokens.ensures)
