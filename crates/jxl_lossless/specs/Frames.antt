-- The samples of a frame of a codestream (ISO/IEC 18181-1, frame: sections, LF global), stage by stage, and what fails at each:
-- what is not supported comes before what is wrong with samples.
use Rattle.std.specs.Prelude.{◌≡◌, ℕ, ◌^◌, ◌<◌, ◌≤◌, ◌⊎◌, pos, ℤ, List, [], length, map, get_or, Bool, true, MatchBool, Option, Some, None}
use Rattle.std.specs.Int.{div_ceil, w32}
use Rattle.jxlm_bits.specs.Decoding.{Meaning}
use Rattle.jxlm_bits.specs.ErrorKind.{ErrorKind, UnlessMemory, kind_of}
use Rattle.jxlm_bits.specs.Grammar.{Grammar, IsErrorAt}
use Rattle.jxlm_base.specs.Grid.{Grid}
use Rattle.jxlm_transform.specs.Channels.{Channel, ChannelList}
use Rattle.jxlm_transform.specs.declared.param.ChannelShift.TheVariants.{Shifts}
use Rattle.jxlm_transform.specs.declared.param.GradientSums.TheVariants.{Clamped}
use Rattle.jxlm_transform.specs.declared.param.PaletteTables.TheVariants.{OfDeltasToo}
use Rattle.jxlm_groups.specs.Passes.{passes_of}
use Rattle.jxlm_tree.specs.Tree.{Config, depth}
use Rattle.jxlm_tree.specs.TreeReading.{IsTooDeep, IsTreeAt, listing_at}
use Rattle.jxl_image_header.specs.Images.{Image}
use Rattle.jxl_image_header.specs.declared.size.Size.{Size}
use Rattle.jxl_frame_header.specs.Frames.{frame_size}
use Rattle.jxl_frame_header.specs.Passes.{pass_shifts}
use Rattle.jxl_codestream.specs.Starts.{section_start, tree_limit}
use Rattle.jxl_patches.specs.Errors.{patch_kind}
use Rattle.jxl_patches.specs.Patches.{Patches}
use Rattle.jxl_patches.specs.Slots.{ArePut, Slots, optional_patches, sizes_of}
use Rattle.jxl_picture.specs.Limits.{channel_count}
use Rattle.jxl_picture.specs.Pictures.{colour_count, shifts_of}
use Rattle.jxl_lossless.specs.Stills.{IsStill, StillFails}
use Rattle.jxl_codestream.specs.Fronts.{FailsAt, FrameAt, StandsAt, layout_in}
use Rattle.jxl_lossless.specs.Sections.{section_of, sections_in}
use Rattle.jxl_lossless.specs.declared.error.FileError.{FileError}
use Rattle.jxl_lossless.specs.declared.error.FileError.TheVariants as errors

-- a channel of this shift in a frame of this size; in a file the table of a palette has columns for deltas too, and
-- sums are clamped
abbrev pub channel_in : Size → ℕ → Channel
channel_in size s = record {
  width = div_ceil size.width (2 ^ s);
  height = div_ceil size.height (2 ^ s);
  original_width = size.width;
  original_height = size.height;
  hshift = pos s;
  vshift = pos s;
  original_shift = Shifts s;
  palette_tables = OfDeltasToo;
  gradient_sums = Clamped;
}

-- the channels of a frame of an image, of this size
abbrev pub channels_given : Image → Size → ChannelList
channels_given image size = record { channels = map (channel_in size) (shifts_of image); nb_meta = 0 }

-- The first section of a frame of this size with n channels has, from bit p on, factors that Modular does not use, and the
-- tree that sections share, if there is one, up to bit q. Its nodes are within the frame's limit, and its depth is at most
-- `deepest`.
pub record SharedTree {D : Type 0} (d : Meaning D) (size : Size) (n deepest : ℕ) (first : List ℕ) (p : ℕ) (global : Option (Config D)) (q : ℕ) : Type 0 where
  pub there : Bool
  pub begin : ℕ
  pub start : StandsAt section_start first p there begin
  pub tree : MatchBool there ((tree : Config D) × (global ≡ Some tree) × IsTreeAt d first (tree_limit size n) 2048 begin tree q × (depth tree.tree ≤ deepest)) ((global ≡ None) × (q ≡ begin))

-- such a tree follows there, which has this error
abbrev pub TreeFails : {D : Type 0} → Meaning D → Size → ℕ → List ℕ → ℕ → ErrorKind → Type 0
TreeFails d size n first p error = (begin : ℕ) × StandsAt section_start first p true begin
    × (q : ℕ) × (IsErrorAt (listing_at d first (tree_limit size n) begin) error q ⊎ IsTooDeep d first (tree_limit size n) 2048 begin error q)

-- such a tree follows there, and is deeper than this
abbrev pub TreeIsDeep : {D : Type 0} → Meaning D → Size → ℕ → ℕ → List ℕ → ℕ → Type 0
TreeIsDeep {D} d size n deepest first p = (begin : ℕ) × StandsAt section_start first p true begin
    × (tree : Config D) × (q : ℕ) × IsTreeAt d first (tree_limit size n) 2048 begin tree q × (deepest < depth tree.tree)

module _ {D : Type 0} (d : Meaning D) (image : Image) (slots : Slots) (bytes : List ℕ) (frame : FrameAt) where
  -- the first of its sections
  abbrev pub first : List ℕ
  first = get_or (sections_in bytes frame) 0 []

  -- how large the frame is
  abbrev pub sides : Size
  sides = frame_size image.size frame.header

  -- what its first section begins with: patches of the frames that the slots hold, or none
  abbrev pub dictionary : Grammar (Option Patches)
  dictionary = optional_patches d frame.header.coding.flags.patches sides (length image.ec_info) (sizes_of slots)

  -- The bits code them,
  pub record HasPatches : Type 0 where
    pub patches : Option Patches
    pub begin : ℕ
    pub stand : StandsAt dictionary first 0 patches begin

  -- and after them the shared tree, if there is one.
  pub record HasTree : Type 0 where
    pub after : HasPatches
    pub global : Option (Config D)
    pub begin : ℕ
    pub shared : SharedTree d sides (channel_count image) frame.trees.depth first after.begin global begin

  -- These are the frame's channels: samples of 32 bits, which the sections code by the header's passes, with its patches put in.
  pub record IsFrame (grids : List (Grid ℤ)) (before after : ℕ) : Type 0 where
    pub tree : HasTree
    pub own : List (Grid ℤ)
    pub still : IsStill d w32 tree.global (channels_given image sides) frame.header.group_dim image.bit_depth.bits_per_sample
        first tree.begin (passes_of (pass_shifts frame.header.passes)) (section_of (layout_in image frame.header) (sections_in bytes frame)) frame.trees own before after
    pub put : ArePut image slots (colour_count image) tree.after.patches own grids

  -- what each error says: up to which stage all stands, and what fails there
  abbrev pub FrameFails : FileError → Type 0
  FrameFails (errors.Patches e) = UnlessMemory (patch_kind e) (FailsAt dictionary first 0 (patch_kind e))
  FrameFails (errors.Start e) = (s : HasPatches) × FailsAt section_start first s.begin (kind_of e)
  FrameFails (errors.Tree e) = (s : HasPatches) × UnlessMemory (kind_of e) (TreeFails d sides (channel_count image) first s.begin (kind_of e))
  FrameFails errors.TooManyDecisions = (s : HasPatches) × TreeIsDeep d sides (channel_count image) frame.trees.depth first s.begin
  FrameFails (errors.Samples e) = (s : HasTree) × StillFails d w32 s.global (channels_given image sides) frame.header.group_dim
      image.bit_depth.bits_per_sample first s.begin (passes_of (pass_shifts frame.header.passes)) (section_of (layout_in image frame.header) (sections_in bytes frame)) frame.trees e
  FrameFails errors.OutOfMemory = Unit {0}
  FrameFails e = ⊥
