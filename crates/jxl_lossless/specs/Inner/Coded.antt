-- What the first section of a frame and those of its groups code, or why they do not, from a bit position on.
use Rattle.std.specs.Prelude.{ℕ, ℤ, List, length, Option}
use Rattle.std.specs.Int.{Width, w32}
use Rattle.jxlm_bits.specs.Decoding.{Meaning}
use Rattle.jxlm_bits.specs.ErrorKind.{UnlessMemory, kind_of}
use Rattle.jxlm_base.specs.Grid.{Grid}
use Rattle.jxlm_tree.specs.Tree.{Config}
use Rattle.jxl_image_header.specs.Images.{Image}
use Rattle.jxl_image_header.specs.declared.size.Size.{Size}
use Rattle.jxl_frame_header.specs.Frames.{Frame, frame_size}
use Rattle.jxl_codestream.specs.Starts.{section_start}
use Rattle.jxl_patches.specs.Errors.{patch_kind}
use Rattle.jxl_patches.specs.Patches.{Patches}
use Rattle.jxl_patches.specs.Slots.{ArePut, Slots, optional_patches, sizes_of}
use Rattle.jxl_picture.specs.Limits.{channel_count}
use Rattle.jxl_picture.specs.Pictures.{colour_count}
use Rattle.jxl_picture.specs.declared.limits.TreeLimits.{TreeLimits}
use Rattle.jxl_lossless.specs.Places.{own_passes, section_at}
use Rattle.jxl_lossless.specs.Stills.{IsStill, StillFails}
use Rattle.jxl_lossless.specs.declared.still.error.FrameError.{FrameError}
use Rattle.jxl_lossless.specs.declared.still.places.Places.{Places}
use Rattle.jxl_codestream.specs.Fronts.{FailsAt, StandsAt}
use Rattle.jxl_lossless.specs.Frames.{SharedTree, TreeFails, TreeIsDeep, channels_given}
use Rattle.jxl_lossless.specs.declared.error.FileError.{FileError}
use Rattle.jxl_lossless.specs.declared.error.FileError.TheVariants as errors

-- what each error says of what the first section has from bit p on; no other error comes there
abbrev pub StartFails : {D : Type 0} → Meaning D → Size → ℕ → ℕ → List ℕ → ℕ → FileError → Type 0
StartFails d size n deepest first p (errors.Start e) = FailsAt section_start first p (kind_of e)
StartFails d size n deepest first p (errors.Tree e) = UnlessMemory (kind_of e) (TreeFails d size n first p (kind_of e))
StartFails d size n deepest first p errors.TooManyDecisions = TreeIsDeep d size n deepest first p
StartFails d size n deepest first p e = ⊥

-- These are the channels of a frame of this size, by its first section, which has the shared tree from bit p on, and by those
-- of its groups: they have the samples that the sections code.
pub record IsCoded {D : Type 0} (d : Meaning D) (w : Width) (image : Image) (trees : TreeLimits) (size : Size) (group_dim : ℕ) (first : List ℕ) (p : ℕ) (places : Places) (grids : List (Grid ℤ)) (before after : ℕ) : Type 0 where
  pub global : Option (Config D)
  pub begin : ℕ
  pub shared : SharedTree d size (channel_count image) trees.depth first p global begin
  pub still : IsStill d w global (channels_given image size) group_dim image.bit_depth.bits_per_sample first begin (own_passes places) (section_at places) trees grids before after

module _ {D : Type 0} (d : Meaning D) (w : Width) (image : Image) (trees : TreeLimits) where
  -- the first section has the shared tree from bit p on, and after it the image of a frame of this size, or its samples, have
  -- this error
  pub record SamplesFail (size : Size) (group_dim : ℕ) (first : List ℕ) (p : ℕ) (places : Places) (error : FrameError) : Type 0 where
    pub global : Option (Config D)
    pub begin : ℕ
    pub shared : SharedTree d size (channel_count image) trees.depth first p global begin
    pub fails : StillFails d w global (channels_given image size) group_dim image.bit_depth.bits_per_sample first begin (own_passes places) (section_at places) trees error

  -- what each error says of a frame by its first section, from bit p on, and those of its groups
  abbrev pub CodedFails : Size → ℕ → List ℕ → ℕ → Places → FileError → Type 0
  CodedFails size group_dim first p places (errors.Start e) = StartFails d size (channel_count image) trees.depth first p (errors.Start e)
  CodedFails size group_dim first p places (errors.Tree e) = StartFails d size (channel_count image) trees.depth first p (errors.Tree e)
  CodedFails size group_dim first p places errors.TooManyDecisions = StartFails d size (channel_count image) trees.depth first p errors.TooManyDecisions
  CodedFails size group_dim first p places (errors.Samples e) = SamplesFail size group_dim first p places e
  CodedFails size group_dim first p places errors.OutOfMemory = Unit {0}
  CodedFails size group_dim first p places e = ⊥

module _ {D : Type 0} (d : Meaning D) (image : Image) (slots : Slots) where
  -- The first section of a frame begins with these patches of the frames that the slots hold, or with none, up to bit q.
  abbrev pub BeginsWith : Frame → List ℕ → Option Patches → ℕ → Type 0
  BeginsWith frame first patches q =
      StandsAt (optional_patches d frame.coding.flags.patches (frame_size image.size frame) (length image.ec_info) (sizes_of slots)) first 0 patches q

  -- These are the channels of a frame by its first section and those of its groups: with samples of 32 bits, into which its
  -- patches are put.
  pub record IsMade (frame : Frame) (trees : TreeLimits) (first : List ℕ) (places : Places) (grids : List (Grid ℤ)) (before after : ℕ) : Type 0 where
    pub patches : Option Patches
    pub begin : ℕ
    pub dictionary : BeginsWith frame first patches begin
    pub own : List (Grid ℤ)
    pub coded : IsCoded d w32 image trees (frame_size image.size frame) frame.group_dim first begin places own before after
    pub put : ArePut image slots (colour_count image) patches own grids

  -- the first section begins with patches, or with none, and what comes after them has this error
  pub record FailsAfter (frame : Frame) (trees : TreeLimits) (first : List ℕ) (places : Places) (error : FileError) : Type 0 where
    pub patches : Option Patches
    pub begin : ℕ
    pub dictionary : BeginsWith frame first patches begin
    pub fails : CodedFails d w32 image trees (frame_size image.size frame) frame.group_dim first begin places error

  -- what each error says of a frame by its first section and those of its groups
  abbrev pub MadeFails : Frame → TreeLimits → List ℕ → Places → FileError → Type 0
  MadeFails frame trees first places (errors.Patches e) = UnlessMemory (patch_kind e)
      (FailsAt (optional_patches d frame.coding.flags.patches (frame_size image.size frame) (length image.ec_info) (sizes_of slots)) first 0 (patch_kind e))
  MadeFails frame trees first places errors.OutOfMemory = Unit {0}
  MadeFails frame trees first places e = FailsAfter frame trees first places e
