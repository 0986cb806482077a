-- What was written is decoded: the definitions of `jxl_lossless` hold of it.
use Rattle.std.specs.Prelude.{◌≡◌, ℕ, ◌<◌, ◌≤◌, ℤ, List, [], false, IsTrue, Option, Some}
use Rattle.std.specs.List.{All}
use Rattle.std.specs.Int.{Width}
use Rattle.jxlm_bits.specs.Decoding.{Meaning}
use Rattle.jxlm_base.specs.Grid.{Grid}
use Rattle.jxlm_groups.specs.Passes.{can_group, one_picture}
use Rattle.jxlm_groups.specs.Pieces.{part_channels}
use Rattle.jxlm_groups.specs.declared.part.SectionPart.{SectionPart}
use Rattle.jxlm_groups.specs.declared.pass.Pass.{Pass}
use Rattle.jxlm_samples.specs.Part.{cell_count}
use Rattle.jxlm_transform.specs.Channels.{image_list, tables_for}
use Rattle.jxlm_transform.specs.ChannelSteps.{CodedList}
use Rattle.jxlm_transform.specs.Params.{IsSide, IsValidChannel}
use Rattle.jxlm_transform.specs.declared.param.ModularChannelParams.{ModularChannelParams}
use Rattle.jxlm_transform.specs.declared.param.PaletteTables.TheVariants.{OfDeltasToo}
use Rattle.jxlm_transform.specs.Transforms.{Transform}
use Rattle.jxlm_tree.specs.Tree.{Config, depth}
use Rattle.jxlm_section_split.specs.CutPicture.{one_pass}
use Rattle.jxl_image_header.specs.declared.size.Size.{Size}
use Rattle.jxl_frame_header.specs.Frames.{frame_size}
use Rattle.jxl_frame_header.specs.Passes.{IsPassCount}
use Rattle.jxl_codestream.specs.FrontParts.{bytes_if}
use Rattle.jxl_codestream.specs.Fronts.{FrameAt, HasProfile}
use Rattle.jxl_codestream.specs.Layouts.{Layout, has_part, layout_of}
use Rattle.jxl_coding.specs.Parse.{decoder_at}
use Rattle.jxl_coding.specs.Tokens.{entropy}
use Rattle.jxl_image_header.specs.Images.{Image, image_of}
use Rattle.jxl_patches.specs.Slots.{Slots}
use Rattle.jxl_picture.specs.Orientations.{IsUpright}
use Rattle.jxl_picture.specs.declared.limits.Limits.{Limits}
use Rattle.jxl_picture.specs.declared.limits.TreeLimits.{TreeLimits}
use Rattle.jxl_picture.specs.declared.picture.Picture.{Picture}
use Rattle.jxl_lossless.specs.Frames.{IsFrame}
use Rattle.jxl_lossless.specs.Pictures.{HasFront, IsPictureOfFile}
use Rattle.jxl_lossless.specs.Sections.{section_of}
use Rattle.jxl_lossless.specs.Stills.{IsStill}
use Rattle.jxl_encode_image.specs.Preparations.{AreReady}
use Rattle.jxl_encode_frame.specs.Codings.{AreSections, FrameCoding, IsOneSection}

-- Where one section has all samples of an image, no group needs one.
abbrev pub OneSectionIsAll : {D : Type 0} → Meaning D → Type 0
OneSectionIsAll {D} d = (w : Width) (config : Config D) (given : List ModularChannelParams) (group_dim : ℕ) (trees : TreeLimits) (passes : List Pass) (bytes : List ℕ) (p : ℕ)
    (section_of : SectionPart → Option (List ℕ × ℕ)) (image : List (Grid ℤ)) →
    IsOneSection d w config (image_list given) group_dim bytes p image → AreSections d w config (image_list given) group_dim trees passes bytes p section_of image

-- The sections of an image are a frame of it, as the decoder defines it: its channels are of one picture and have the tables of
-- palettes of files, the passes can cut it, and the tree that they share is not too deep. Groups' own trees are within the limits.
abbrev pub SectionsAreStill : {D : Type 0} → Meaning D → Width → Type 0
SectionsAreStill {D} d w = (config : Config D) (given : List ModularChannelParams) (group_dim bit_depth : ℕ) (passes : List Pass) (layout : Layout)
    (first : List ℕ) (p : ℕ) (sections : List (List ℕ)) (trees : TreeLimits) (image : List (Grid ℤ)) → depth config.tree ≤ trees.depth →
    All IsValidChannel given → tables_for (image_list given).channels ≡ OfDeltasToo → IsTrue (one_picture (image_list given).channels) →
    IsTrue (can_group passes []) →
    AreSections d w config (image_list given) group_dim trees passes first p (section_of layout sections) image → (before : ℕ) → (after : ℕ) ×
    IsStill d w (Some config) (image_list given) group_dim bit_depth first p passes (section_of layout sections) trees image before after

-- the channel is of a picture of this size
abbrev pub IsOfSize : Size → ModularChannelParams → Type 0
IsOfSize size p = (p.width ≡ size.width) × (p.height ≡ size.height)

-- In a frame of one pass each part with samples is one that its layout has, so it has a section.
abbrev pub GroupsAreInLayout : Type 0
GroupsAreInLayout = (given : List ModularChannelParams) (size : Size) (group_dim : ℕ) (ts : List Transform) (coded : CodedList) (part : SectionPart) →
    0 < group_dim → All IsValidChannel given → All (IsOfSize size) given → AreReady ts (image_list given) coded →
    0 < cell_count (part_channels group_dim one_pass coded.list part) → IsTrue (has_part (layout_of size group_dim 1) part)

-- a frame without patches, of an image whose channels are supported
pub record IsPlainFrame (image : Image) (frame : FrameAt) : Type 0 where
  pub low : All (λ c. c.dim_shift ≤ 3) image.ec_info
  pub wide : IsSide (frame_size image.size frame.header).width
  pub high : IsSide (frame_size image.size frame.header).height
  pub passes : IsPassCount frame.header.passes.num_passes
  pub plain : frame.header.coding.flags.patches ≡ false

-- And with the shared tree before them they are the frame, whatever the slots hold.
abbrev pub CodingIsFrame : {D : Type 0} → Meaning D → Type 0
CodingIsFrame d = (image : Image) (slots : Slots) (bytes : List ℕ) (frame : FrameAt) (grids : List (Grid ℤ)) → IsPlainFrame image frame →
    FrameCoding d image bytes frame grids → (before : ℕ) → (after : ℕ) × IsFrame d image slots bytes frame grids before after

-- In a file whose headers and tables describe this one frame, it is decoded to the picture of these channels, with the profile of
-- the file.
abbrev pub CodingIsPicture : Type 0
CodingIsPicture = (limits : Limits) (file : List ℕ) (picture : Picture) (front : HasFront limits file) (coded : List (Grid ℤ)) → front.saved ≡ [] →
    IsPlainFrame front.image front.shown → FrameCoding (entropy decoder_at) front.image front.bytes front.shown coded →
    IsUpright front.image coded (image_of picture.header) picture.channels.items →
    HasProfile (entropy decoder_at) limits front.bytes front.image (bytes_if picture.profile) → (before : ℕ) → (after : ℕ) × IsPictureOfFile limits file picture before after
