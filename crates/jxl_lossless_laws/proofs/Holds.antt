-- The parts of a frame hold each coded cell once.
use Rattle.std.proofs.Common.{◌≡◌, ℕ, Bool, true, false, List, [], drop, Option, None, Ok, refl, sym, ap, subst, arith}
use Rattle.std.specs.Prelude.{IsTrue, is_some}
use Rattle.jxlm_bits.specs.Decoding.{Meaning}
use Rattle.jxlm_bits.specs.Grammar.{u32}
use Rattle.jxlm_bits.specs.declared.bits.U32Spec.TheVariants.{Const, Offset}
use Rattle.jxlm_bits.proofs.FieldRanges.{u32-between}
use Rattle.jxlm_bits.proofs.GrammarLaws.{exact-u32}
use Rattle.jxlm_groups.specs.Cutting.{can_cut}
use Rattle.jxlm_groups.specs.Parts.{HoldEachCellOnce}
use Rattle.jxlm_groups.specs.Passes.{can_group, one_picture, passes_of}
use Rattle.jxlm_groups.specs.declared.pass.Pass.{Pass}
use Rattle.jxlm_groups.proofs.Parts.{parts_hold}
use Rattle.jxlm_header.specs.Opening.{Opening}
use Rattle.jxlm_nested.specs.Starts.{IsStartAt}
use Rattle.jxlm_section_split.proofs.Openings.{opened_steps}
use Rattle.jxlm_transform.specs.Channels.{Channel, ChannelList, image_list}
use Rattle.jxlm_transform.specs.ChannelSteps.{Step, list_after_all}
use Rattle.jxlm_transform.specs.Params.{IsGroupDim, IsValidChannel}
use Rattle.jxlm_transform.specs.Steps.{HasChannels}
use Rattle.jxlm_transform.specs.declared.param.ModularChannelParams.{ModularChannelParams}
use Rattle.std.specs.List.{All}
use Rattle.jxlm_tree.specs.Tree.{Config}
use Rattle.jxl_image_header.specs.Fields.{when}
use Rattle.jxl_image_header.specs.Images.{Image, image_refusal}
use Rattle.jxl_image_header.specs.declared.size.Size.{Size}
use Rattle.jxl_frame_header.proofs.FrameLaws.{exact-frame_header}
use Rattle.jxl_frame_header.specs.Frames.{Frame, frame_header, frame_size}
use Rattle.jxl_frame_header.specs.Passes.{IsPassCount, Passes, pass_shifts, passes}
use Rattle.jxl_picture.specs.Pictures.{colour_count}
use Rattle.jxl_picture.specs.declared.limits.Limits.{Limits}
use Rattle.jxl_codestream.specs.Fronts.{FrameGoesOn}
use Rattle.jxl_codestream.proofs.Dims.{dim_of}
use Rattle.jxl_codestream.proofs.Fronts.{low}
use Rattle.jxl_lossless.specs.Frames.{channels_given}
use Rattle.jxl_lossless.proofs.Channels.{alike, are_given, valid}
use Rattle.jxl_lossless.proofs.PassShifts.{can_be_cut}

-- ---- how many passes there are

counted : (there : Bool) (bytes : List ℕ) (p n q : ℕ) → (when there (u32 (Const 1) (Const 2) (Const 3) (Offset 4 3)) 1).Stands bytes p n q → IsPassCount n
counted true bytes p n q s =
    let between = u32-between (Const 1) (Const 2) (Const 3) (Offset 4 3) bytes p (record { value = n; position = q }) ((exact-u32 (Const 1) (Const 2) (Const 3) (Offset 4 3)).stands_read bytes p n q s) in
    record { some = omega (arith, between.0); few = omega (arith, between.1) }
counted false bytes p n q s = let is : n ≡ 1 = s.0 in record { some = omega (arith, is); few = omega (arith, is) }

passes_counted : (there : Bool) (bytes : List ℕ) (p : ℕ) (x : Passes) (q : ℕ) → (passes there).Stands bytes p x q → IsPassCount x.num_passes
unfolding passes
passes_counted there bytes p x q s =
    let (count, a, one, after_count) = s in
    let (n, b, two, after_n) = after_count in
    let (shifts, c, three, after_shifts) = after_n in
    let (factors, e, four, after_factors) = after_shifts in
    let (lasts, f, five, last) = after_factors in
    let is : x.num_passes ≡ count = ap (λ (y : Passes). y.num_passes) last.0 in
    subst IsPassCount (sym is) (counted there bytes p count a one)

pub count_of : (image : Image) (bytes : List ℕ) (p : ℕ) (frame : Frame) (q : ℕ) → (frame_header image).read bytes p ≡ Ok (record { value = frame; position = q }) → IsPassCount frame.passes.num_passes
unfolding frame_header
count_of image bytes p frame q e =
    let (told, m, one, after_told) = (exact-frame_header image).read_stands bytes p (record { value = frame; position = q }) e in
    let (coding, a, two, after_coding) = after_told in
    let (factors, b, three, after_factors) = after_coding in
    let (shift, c, four, after_shift) = after_factors in
    let (scales, d, five, after_scales) = after_shift in
    let (passes_told, f, six, after_passes) = after_scales in
    let (level, g, seven, after_level) = after_passes in
    let (crop, h, eight, after_crop) = after_level in
    let (colours, i, nine, after_colours) = after_crop in
    let (others, j, ten, after_others) = after_colours in
    let (use_of_frame, k, eleven, after_use) = after_others in
    let (name, l, twelve, after_name) = after_use in
    let (filter, n, thirteen, after_filter) = after_name in
    let (extensions, o, fourteen, last) = after_filter in
    let is : frame.passes ≡ passes_told = ap (λ (f : Frame). f.passes) last.0 in
    subst (λ (x : Passes). IsPassCount x.num_passes) (sym is) (passes_counted _ bytes d passes_told f six)

-- ---- its parts

can_be_grouped : (ps : List Pass) (cs : List Channel) → IsTrue (can_group ps []) → IsTrue (one_picture cs) → IsTrue (can_group ps cs)
can_be_grouped ps cs can one = rw one can

holds_of : (dim : ℕ) (ps : List Pass) (list : List ModularChannelParams) (given : ChannelList) (steps : List Step) (l : ChannelList) → All IsValidChannel list → image_list list ≡ given → IsTrue (one_picture (image_list list).channels) →
    IsGroupDim dim → IsTrue (can_group ps []) → All HasChannels steps → list_after_all steps given ≡ Ok l → IsTrue (can_cut dim l) → HoldEachCellOnce dim ps l
holds_of dim ps list given steps l ok are one group can some leave cut =
    parts_hold dim ps list steps l group ok some (can_be_grouped ps (image_list list).channels can one)
    (subst (λ (g : ChannelList). list_after_all steps g ≡ Ok l) (sym are) leave) cut

module _ {D : Type 0} (d : Meaning D) (limits : Limits) (bytes : List ℕ) (image : Image) (supported : image_refusal image ≡ None) (start used : ℕ) (frame : Frame) (end : ℕ) (goes : FrameGoesOn d limits bytes image start used frame end) where
  abbrev size : Size
  size = frame_size image.size frame

  pub holds_each : (global : Option (Config D)) (first : List ℕ) (p : ℕ) (head : Opening) (config : Config D) (at : ℕ) → IsStartAt d global first (channels_given image size) p head config at →
      IsTrue (can_cut frame.group_dim head.coded.list) → HoldEachCellOnce frame.group_dim (passes_of (pass_shifts frame.passes)) head.coded.list
  holds_each global first p head config at begins cut =
      let low_shifts = low image supported in
      let are = are_given image size _ low_shifts refl in
      let one = alike (colour_count image) size.width size.height image.ec_info _ refl in
      let ok = valid (colour_count image) size.width size.height image.ec_info goes.2.0 goes.2.1 low_shifts in
      let count = count_of image (drop start bytes) 0 frame end goes.0 in
      let can = can_be_cut frame.passes count (pass_shifts frame.passes) refl in
      let steps = opened_steps (is_some global) (channels_given image size) first p head begins.tree_at begins.header in
      holds_of frame.group_dim (passes_of (pass_shifts frame.passes)) _ (channels_given image size) head.coded.steps head.coded.list ok are one
      (dim_of image (drop start bytes) 0 frame end goes.0) can steps.channels steps.leave cut
