-- Sections behind the tree that they share are a frame.
use Rattle.std.proofs.Common.{◌≡◌, ℕ, List, [], ◌++◌, get_or, Bool, true, false, if◌then◌else◌, Option, Some, None, refl, sym, subst}
use Rattle.std.specs.Prelude.{map, replicate}
use Rattle.std.specs.Int.{w32}
use Rattle.jxlm_bits.specs.Decoding.{Meaning}
use Rattle.jxlm_groups.specs.Passes.{passes_of}
use Rattle.jxlm_transform.specs.Channels.{ChannelList, tables_for}
use Rattle.jxlm_transform.specs.declared.param.PaletteTables.TheVariants.{OfDeltasToo}
use Rattle.jxl_image_header.specs.declared.size.Size.{Size}
use Rattle.jxl_frame_header.specs.Frames.{frame_size}
use Rattle.jxl_frame_header.specs.Passes.{pass_shifts}
use Rattle.jxl_codestream.specs.Fronts.{StandsAt, layout_in}
use Rattle.jxl_patches.specs.Slots.{optional_patches}
use Rattle.jxl_picture.specs.Pictures.{colour_count, is_grey}
use Rattle.jxl_picture.specs.Limits.{channel_count}
use Rattle.jxl_lossless.specs.Frames.{SharedTree, channel_in, channels_given}
use Rattle.jxl_lossless.specs.Sections.{section_of, sections_in}
use Rattle.jxl_lossless.specs.Stills.{IsStill}
use Rattle.jxl_lossless.proofs.Channels.{alike, are_given, valid}
use Rattle.jxl_lossless.proofs.PassShifts.{can_be_cut}
use Rattle.jxl_encode_frame.specs.Codings.{AreSections}
use Rattle.jxl_encode_frame.specs.Laws.{CodingIsFrame}
use Rattle.jxl_encode_frame.proofs.Stills.{sections_still}

-- without patches none are read
no_patches : {D : Type 0} (d : Meaning D) (there : Bool) (size : Size) (extra : ℕ) (sizes : List (Option Size)) (bytes : List ℕ) → there ≡ false →
    StandsAt (optional_patches d there size extra sizes) bytes 0 None 0
no_patches d there size extra sizes bytes none = rw none refl

-- channels of files have the tables of palettes of files
of_files : (grey : Bool) (size : Size) (rest : List ℕ) → tables_for (map (channel_in size) (replicate (if grey then 1 else 3) 0 ++ rest)) ≡ OfDeltasToo
of_files true size rest = refl
of_files false size rest = refl

pub coding_frame : {D : Type 0} (d : Meaning D) → CodingIsFrame d
coding_frame {D} d image slots bytes frame grids fit c before =
    let size : Size = frame_size image.size frame.header in
    let first : List ℕ = get_or (sections_in bytes frame) 0 [] in
    let are = are_given image size _ fit.low refl in
    let one = alike (colour_count image) size.width size.height image.ec_info _ refl in
    let ok = valid (colour_count image) size.width size.height image.ec_info fit.wide fit.high fit.low in
    let can = can_be_cut frame.header.passes fit.passes (pass_shifts frame.header.passes) refl in
    let of_size_given : tables_for (channels_given image size).channels ≡ OfDeltasToo = of_files (is_grey image) size (map (λ c. c.dim_shift) image.ec_info) in
    let files = subst (λ (l : ChannelList). tables_for l.channels ≡ OfDeltasToo) (sym are) of_size_given in
    let s = c.sections in
    let of_size = subst (λ (z : Size). AreSections d w32 c.config (channels_given image z) frame.header.group_dim frame.trees (passes_of (pass_shifts frame.header.passes)) c.first c.end
    (section_of (layout_in image frame.header) (sections_in bytes frame)) grids) c.size_is s in
    let given = subst (λ (l : ChannelList). AreSections d w32 c.config l frame.header.group_dim frame.trees (passes_of (pass_shifts frame.header.passes)) c.first c.end
    (section_of (layout_in image frame.header) (sections_in bytes frame)) grids) (sym are) of_size in
    let (after, still) = sections_still d w32 c.config _ frame.header.group_dim image.bit_depth.bits_per_sample (passes_of (pass_shifts frame.header.passes)) (layout_in image frame.header) c.first c.end
    (sections_in bytes frame) frame.trees grids c.within ok files one can given before in
    let own = subst (λ (l : ChannelList). IsStill d w32 (Some c.config) l frame.header.group_dim image.bit_depth.bits_per_sample c.first c.end (passes_of (pass_shifts frame.header.passes))
    (section_of (layout_in image frame.header) (sections_in bytes frame)) frame.trees grids before after) are still in
    let there = subst (λ (b : List ℕ). IsStill d w32 (Some c.config) (channels_given image size) frame.header.group_dim image.bit_depth.bits_per_sample b c.end (passes_of (pass_shifts frame.header.passes))
    (section_of (layout_in image frame.header) (sections_in bytes frame)) frame.trees grids before after) c.first_is own in
    let shared : SharedTree d c.size (channel_count image) frame.trees.depth c.first 0 (Some c.config) c.end =
    record { there = true; begin = c.tree_at; start = c.start; tree = (c.config, refl, c.tree, c.within) } in (
      after,
      record {
        tree = record {
          after = record { patches = None; begin = 0; stand = no_patches d frame.header.coding.flags.patches _ _ _ _ fit.plain };
          global = Some c.config;
          begin = c.end;
          shared = subst (λ (b : List ℕ). SharedTree d size (channel_count image) frame.trees.depth b 0 (Some c.config) c.end) c.first_is
              (subst (λ (z : Size). SharedTree d z (channel_count image) frame.trees.depth c.first 0 (Some c.config) c.end) c.size_is shared);
        };
        own = grids;
        still = there;
        put = refl;
      },
    )
