use Rattle.std.proofs.Common.{◌∙◌}
use Rattle.jxl_image_header.specs.Images.{image_of}
use Rattle.jxl_frame_header.specs.Frames.{frame_of}
use Rattle.jxl_frame_header_write.proofs.FrameSpellings.{frame_parts, frame_spelled}
use Rattle.jxl_frame_header_write.proofs.frame.write_frame_header.Goals as goal

pub dim_shift-shift-requires : goal.dim_shift-shift-requires
dim_shift-shift-requires c = (frame_parts (image_of c.args.image.now) (frame_of c.args.frame.now) c.requires).dim

pub write_coding-requires : goal.write_coding-requires
write_coding-requires c = (frame_parts (image_of c.args.image.now) (frame_of c.args.frame.now) c.requires).coding

pub write_factors_if-requires : goal.write_factors_if-requires
write_factors_if-requires c = rw (c.deref.ensures.value, c.len-extra.ensures ∙ c.args.image.now.ec_info.ok.0) (frame_parts (image_of c.args.image.now) (frame_of c.args.frame.now) c.requires).factors

pub write_passes_if-requires : goal.write_passes_if-requires
write_passes_if-requires c = rw c.is_reference.ensures (frame_parts (image_of c.args.image.now) (frame_of c.args.frame.now) c.requires).passes

pub write_level_if-requires : goal.write_level_if-requires
write_level_if-requires c = rw c.is_lf-lf.ensures (frame_parts (image_of c.args.image.now) (frame_of c.args.frame.now) c.requires).level

pub write_place_if-requires : goal.write_place_if-requires
write_place_if-requires c = rw (c.is_lf-lf.ensures, c.is_shown-shown.ensures) (frame_parts (image_of c.args.image.now) (frame_of c.args.frame.now) c.requires).place

pub write_blending_if-requires : goal.write_blending_if-requires
write_blending_if-requires c = rw (c.is_shown-shown.ensures, c.len-extra.ensures ∙ c.args.image.now.ec_info.ok.0, c.is_partial-partial.ensures) (frame_parts (image_of c.args.image.now) (frame_of c.args.frame.now) c.requires).colours

pub write_blendings_if-requires : goal.write_blendings_if-requires
write_blendings_if-requires c = rw (c.deref-2.ensures.value, c.is_shown-shown.ensures, c.len-extra.ensures ∙ c.args.image.now.ec_info.ok.0, c.is_partial-partial.ensures) (frame_parts (image_of c.args.image.now) (frame_of c.args.frame.now) c.requires).others

pub write_use-requires-clause-spelled : goal.write_use-requires-clause-spelled
write_use-requires-clause-spelled c = rw (c.is_shown-shown.ensures, c.replaces.ensures, c.is_partial-partial.ensures) (frame_parts (image_of c.args.image.now) (frame_of c.args.frame.now) c.requires).usage

pub write_filter-requires : goal.write_filter-requires
write_filter-requires c = (frame_parts (image_of c.args.image.now) (frame_of c.args.frame.now) c.requires).filter

pub returns : goal.returns
returns c =
    frame_spelled (image_of c.args.image.now) (frame_of c.args.frame.now) c.dim_shift-shift.result c.args.bits.now c.write_bundle_if.new.bits c.write_coding.new.bits c.write_factors_if.new.bits c.write_number.new.bits
    c.write_passes_if.new.bits c.write_level_if.new.bits c.write_place_if.new.bits c.write_blending_if.new.bits c.write_blendings_if.new.bits c.write_use.new.bits c.write_no_name.new.bits c.write_filter.new.bits
    c.write_no_extensions_if.new.bits (frame_parts (image_of c.args.image.now) (frame_of c.args.frame.now) c.requires) c.dim_shift-shift.ensures.is
    c.in_ok-write_bundle_if.ensures c.in_ok-write_coding.ensures (rw (c.deref.ensures.value, c.len-extra.ensures ∙ c.args.image.now.ec_info.ok.0) at c.in_ok-write_factors_if.ensures) c.in_ok-write_number.ensures
    (rw c.is_reference.ensures at c.in_ok-write_passes_if.ensures) (rw c.is_lf-lf.ensures at c.in_ok-write_level_if.ensures)
    (rw (c.is_lf-lf.ensures, c.is_shown-shown.ensures) at c.in_ok-write_place_if.ensures)
    (rw (c.is_shown-shown.ensures, c.len-extra.ensures ∙ c.args.image.now.ec_info.ok.0, c.is_partial-partial.ensures) at c.in_ok-write_blending_if.ensures)
    (rw (c.deref-2.ensures.value, c.is_shown-shown.ensures, c.len-extra.ensures ∙ c.args.image.now.ec_info.ok.0, c.is_partial-partial.ensures) at c.in_ok-write_blendings_if.ensures)
    (rw (c.is_shown-shown.ensures, c.replaces.ensures, c.is_partial-partial.ensures) at c.in_ok-write_use.ensures) c.in_ok-write_no_name.ensures c.in_ok-write_filter.ensures
    c.in_ok-write_no_extensions_if.ensures
