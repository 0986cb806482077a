use Rattle.std.specs.Prelude.{◌==◌, ◌&&◌, ◌||◌, not, is_some, false}
use Rattle.std.specs.List.{list_any}
use Rattle.std.specs.Option.{option_map_or}
use Rattle.jxl_image_header.specs.Images.{image_of}
use Rattle.jxl_frame_header.specs.Blendings.{is_replace}
use Rattle.jxl_frame_header.specs.Codings.{coding_refusal}
use Rattle.jxl_frame_header.specs.Frames.{frame_of, has_floats, has_shifts, is_saved}
use Rattle.jxl_frame_header.specs.declared.refusal.Refusal.TheVariants as refusals
use Rattle.jxl_frame_header.proofs.Rows.{row}
use Rattle.jxl_frame_header.proofs.frame.FrameHeader.refused.Goals as goal

pub returns : goal.returns
returns c =
    let image = image_of c.args.image.now in
    let h = frame_of c.args.self.now in
    let crop = h.place.crop in
    rw (c.or-5.ensures, c.or-4.ensures, c.or-3.ensures, c.or-2.ensures, c.or.ensures, c.refused-5.ensures, c.refused-4.ensures, c.refused-3.ensures, c.refused-2.ensures, c.factors_refused.ensures, c.deref.ensures.value, c.refused.ensures, c.has_floats.ensures, c.has_shifts.ensures)
    (row (coding_refusal (has_floats image) (has_shifts image) h.coding) (list_any (λ f. not (f == 1)) h.ec_upsampling) (is_some crop && not (is_saved h))
    (option_map_or (λ c. (c.width == 0) || (c.height == 0)) crop false) (not (is_replace h.blending_info.mode)) (list_any (λ b. not (is_replace b.mode)) h.ec_blending_info)
    (is_saved h && not h.frame_use.save_before_ct) (not (is_saved h || h.frame_use.is_last)) (h.restoration_filter.gab || not (h.restoration_filter.epf_iters == 0))
    refusals.ExtraUpsampling refusals.Crop refusals.EmptyFrame refusals.Blending refusals.ExtraBlending refusals.SavedAfter refusals.Frames refusals.LoopFilter)
