use Rattle.std.proofs.Common.{◌≡◌, ◌≢◌, ◌∙◌, ℕ, List, length, All, sym, ap, subst}
use Rattle.std.specs.Global.{Vec}
use Rattle.jxlm_bit_writer.specs.declared.token.Token.{Token}
use Rattle.jxlm_groups.specs.declared.part.SectionPart.TheVariants as parts
use Rattle.jxl_codestream.specs.LayoutParts.{parts_of}
use Rattle.jxl_coding_build.specs.AnyWriters.{codes_in}
use Rattle.jxl_encode_frame.specs.Numbers.{section_among}
use Rattle.jxl_encode_image.specs.Preparations.{image_transforms}
use Rattle.jxl_encode_image.proofs.Buffers.{store_back}
use Rattle.jxl_encode_sections.specs.Sections.{IsFirstSection}
use Rattle.jxl_encode_sections.specs.Inner.Groups.{HasSection}
use Rattle.jxl_encode_sections.specs.declared.parts.PartTokens.{PartTokens}
use Rattle.jxl_encode_sections.proofs.FirstSections.{global_is_first}
use Rattle.jxl_encode_sections.proofs.frame.written.Goals as goal

pub returns : goal.returns
returns c =
    let l = parts_of c.args.layout.now in
    let final : List (Vec ℕ) = c.put_groups.new.sections.items in
    let old : List (Vec ℕ) = c.in_ok-sections.sections.items in
    let mid : List (Vec ℕ) = c.put_section.new.sections in
    let count : length mid ≡ length old = c.put_section.ensures.count ∙ ap {B = ℕ} (λ (xs : List (Vec ℕ)). length xs) c.deref_mut.ensures.value in
    let back = store_back c.in_ok-sections.sections.len mid old c.in_ok-sections.sections.ok.0 count in
    let others = subst (λ (gs : List PartTokens). All (λ (p : PartTokens). p.part ≢ parts.Global) gs) (sym c.deref-2.ensures.value) c.requires.others in
    let kept = c.in_ok-put_groups.ensures.others others in
    let found = kept ∙ ap (λ (xs : List (Vec ℕ)). section_among l xs parts.Global) back ∙ c.put_section.ensures.found in
    record {
      count = c.in_ok-put_groups.ensures.count;
      first = c.in_ok-first.first.items;
      first_is = global_is_first l final c.in_ok-first.first.items _ found;
      end = c.in_ok-first.ensures.0;
      is_first = subst (λ (ts : List Token). IsFirstSection c.args.nodes.now (codes_in c.args.codes.now) (image_transforms c.args.transforms.now) ts c.in_ok-first.first.items 0 c.in_ok-first.ensures.0) c.deref.ensures.value c.in_ok-first.ensures.1;
      groups = subst (λ (gs : List PartTokens). All (λ (p : PartTokens). HasSection (codes_in c.args.codes.now) l gs final p.part) gs) c.deref-2.ensures.value c.in_ok-put_groups.ensures.found;
    }
