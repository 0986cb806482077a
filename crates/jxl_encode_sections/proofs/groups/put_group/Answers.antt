use Rattle.std.proofs.Common.{◌≡◌, ◌∙◌, ℕ, List, [], length, sym, ap, subst}
use Rattle.std.specs.Global.{Vec}
use Rattle.jxlm_bit_writer.specs.declared.token.Token.{Token}
use Rattle.jxl_codestream.specs.LayoutParts.{parts_of}
use Rattle.jxl_encode_frame.specs.Numbers.{KeepsOthers}
use Rattle.jxl_encode_image.proofs.Buffers.{store_back}
use Rattle.jxl_coding_build.specs.AnyWriters.{codes_in}
use Rattle.jxl_encode_sections.specs.Inner.Groups.{IsGroupOf}
use Rattle.jxl_encode_sections.specs.Sections.{AreBehindHeader}
use Rattle.jxl_encode_sections.proofs.groups.put_group.Goals as goal

pub returns : goal.returns
returns c =
    let old : List (Vec ℕ) = c.args.sections.now.items in
    let new : List (Vec ℕ) = c.put_section.new.sections in
    let behind = c.in_ok-bytes.ensures in
    let count : length new ≡ length old = c.put_section.ensures.count ∙ ap {B = ℕ} (λ (xs : List (Vec ℕ)). length xs) c.deref_mut.ensures.value in
    subst (IsGroupOf (codes_in c.args.codes.now) (parts_of c.args.layout.now) c.args.group.now old) (sym (store_back c.args.sections.now.len new old c.args.sections.now.ok.0 count))
    (record {
      bytes = c.in_ok-bytes.bytes.items;
      found = c.put_section.ensures.found;
      others = subst (λ (xs : List (Vec ℕ)). KeepsOthers (parts_of c.args.layout.now) c.args.group.now.part xs new) c.deref_mut.ensures.value c.put_section.ensures.others;
      count = count;
      end = behind.0;
      samples = subst (λ (ts : List Token). AreBehindHeader (codes_in c.args.codes.now) [] ts c.in_ok-bytes.bytes.items 0 behind.0) c.deref.ensures.value behind.1;
    })
