use Rattle.std.proofs.Common.{◌∙◌, refl, Some}
use Rattle.std.proofs.lemmas.Result.{err_from_is_err_and}
use Rattle.jxlm_bits.specs.Bits.{position_of}
use Rattle.jxlm_bits.specs.ErrorKind.{bitstream_kind, kind_of}
use Rattle.jxl_image_header.specs.Images.{image_header}
use Rattle.jxlm_bits.proofs.UnlessMemory.{fails_first, unless_no_memory}
use Rattle.jxl_image_header.proofs.image.ImageHeader.parse.Goals as goal

pub returns-in_err-extra : goal.returns-in_err-extra
unfolding image_header
returns-in_err-extra c =
    let p = err_from_is_err_and c.from_residual-in_err-extra.result c.from_residual-in_err-extra.ensures.1 in
    let b1 = c.signature.ensures.bytes in
    let b2 = c.read_size.ensures.bytes ∙ b1 in
    let b3 = c.bundle_follows.ensures.bytes ∙ b2 in
    let b4 = c.flag_if.ensures.bytes ∙ b3 in
    let b5 = c.number_if.ensures.reads.bytes ∙ b4 in
    let b6 = c.size_if.ensures.bytes ∙ b5 in
    let b7 = c.size_if-2.ensures.bytes ∙ b6 in
    let b8 = c.optional_if.ensures.bytes ∙ b7 in
    let b9 = c.parse_if.ensures.bytes ∙ b8 in
    let b10 = c.flag_if-2.ensures.bytes ∙ b9 in
    record {
      gives = rw (p.1, p.2, c.in_ok-signature.ensures.gives, (rw b1 at c.in_ok-size.ensures.gives), (rw b2 at c.in_ok-follows.ensures.gives), (rw b3 at c.in_ok-more.ensures.gives), (rw b4 at c.in_ok-orientation.ensures.reads.gives), (rw b5 at c.in_ok-intrinsic.ensures.gives), (rw b6 at c.in_ok-preview.ensures.gives), (rw b7 at c.in_ok-animation.ensures.gives), (rw b8 at c.in_ok-depth.ensures.gives), (rw b9 at c.in_ok-narrow.ensures.gives))
          (fails_first _ _ (kind_of c.in_err-extra.field-0.0) (position_of c.channels_if.new.bits) (rw b10 at c.in_err-extra.ensures.gives));
      bytes = c.channels_if.ensures.bytes ∙ b10;
    }

pub returns-in_err-colour : goal.returns-in_err-colour
unfolding image_header
returns-in_err-colour c =
    let p = err_from_is_err_and c.from_residual-in_err-colour.result c.from_residual-in_err-colour.ensures.1 in
    let b1 = c.signature.ensures.bytes in
    let b2 = c.read_size.ensures.bytes ∙ b1 in
    let b3 = c.bundle_follows.ensures.bytes ∙ b2 in
    let b4 = c.flag_if.ensures.bytes ∙ b3 in
    let b5 = c.number_if.ensures.reads.bytes ∙ b4 in
    let b6 = c.size_if.ensures.bytes ∙ b5 in
    let b7 = c.size_if-2.ensures.bytes ∙ b6 in
    let b8 = c.optional_if.ensures.bytes ∙ b7 in
    let b9 = c.parse_if.ensures.bytes ∙ b8 in
    let b10 = c.flag_if-2.ensures.bytes ∙ b9 in
    let b11 = c.channels_if.ensures.bytes ∙ b10 in
    let b12 = c.flag_if-3.ensures.bytes ∙ b11 in
    record {
      gives = rw (p.1, p.2) (unless_no_memory (bitstream_kind c.in_err-colour.field-0.0) _ (record {
        place = Some (position_of c.parse_if-2.new.bits);
        refuses = rw (c.in_ok-signature.ensures.gives, (rw b1 at c.in_ok-size.ensures.gives), (rw b2 at c.in_ok-follows.ensures.gives), (rw b3 at c.in_ok-more.ensures.gives), (rw b4 at c.in_ok-orientation.ensures.reads.gives), (rw b5 at c.in_ok-intrinsic.ensures.gives), (rw b6 at c.in_ok-preview.ensures.gives), (rw b7 at c.in_ok-animation.ensures.gives), (rw b8 at c.in_ok-depth.ensures.gives), (rw b9 at c.in_ok-narrow.ensures.gives), (rw b10 at c.in_ok-extra.ensures.gives), (rw b11 at c.in_ok-xyb.ensures.gives), (rw b12 at c.in_err-colour.ensures.gives)) refl;
        stands = refl;
      }));
      bytes = c.parse_if-2.ensures.bytes ∙ b12;
    }
