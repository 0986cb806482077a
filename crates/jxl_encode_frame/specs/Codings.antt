-- What an encoder writes into the sections of a frame (ISO/IEC 18181-1, frame: sections; Modular: global and group
-- sub-bitstreams): the frame has a tree, which groups use that have none of their own, and only the image's own header has transforms.
use Rattle.std.specs.Prelude.{◌≡◌, ◌≢◌, ℕ, ◌<◌, ◌≤◌, ◌⊎◌, ℤ, List, [], get_or, length, sum_by, true, IsTrue, Option, Some}
use Rattle.std.specs.Int.{Width, w32}
use Rattle.std.specs.List.{AllPairs}
use Rattle.jxlm_bits.specs.Decoding.{Meaning}
use Rattle.jxlm_base.specs.Grid.{Grid}
use Rattle.jxlm_base.specs.Regions.{grids_in}
use Rattle.jxlm_groups.specs.Cutting.{can_cut, global_count}
use Rattle.jxlm_groups.specs.Passes.{passes_of}
use Rattle.jxlm_groups.specs.Pieces.{part_channels, pieces}
use Rattle.jxlm_groups.specs.declared.part.SectionPart.{SectionPart}
use Rattle.jxlm_groups.specs.declared.part.SectionPart.TheVariants as parts
use Rattle.jxlm_groups.specs.declared.pass.Pass.{Pass}
use Rattle.jxlm_header.specs.Header.{file_header}
use Rattle.jxlm_header.specs.Opening.{depth_limit, node_limit}
use Rattle.jxlm_samples.specs.Coded.{IsCodedWhole}
use Rattle.jxlm_samples.specs.Part.{Part, cell_count}
use Rattle.jxlm_transform.specs.Channels.{Channel, ChannelList}
use Rattle.jxlm_transform.specs.Transforms.{Transform}
use Rattle.jxlm_tree.specs.Tree.{Config, depth}
use Rattle.jxlm_tree.specs.TreeReading.{IsTreeAt}
use Rattle.jxlm_weighted.specs.WeightsHeader.{default_weights}
use Rattle.jxl_encode_image.specs.Preparations.{Preparation, own_header, shared_header}
use Rattle.jxl_image_header.specs.Images.{Image}
use Rattle.jxl_image_header.specs.declared.size.Size.{Size}
use Rattle.jxl_frame_header.specs.Frames.{frame_size}
use Rattle.jxl_frame_header.specs.Passes.{pass_shifts}
use Rattle.jxl_picture.specs.Limits.{channel_count}
use Rattle.jxl_picture.specs.declared.limits.TreeLimits.{TreeLimits}
use Rattle.jxl_codestream.specs.Fronts.{FrameAt, StandsAt, layout_in}
use Rattle.jxl_codestream.specs.Starts.{section_start, tree_limit}
use Rattle.jxl_lossless.specs.Codewords.{HasCodewords}
use Rattle.jxl_lossless.specs.Frames.{channels_given}
use Rattle.jxl_lossless.specs.Sections.{section_of, sections_in}

-- the part of these channels, by this tree
abbrev pub part_by_tree : {D : Type 0} → Config D → List Channel → ℕ → Part
part_by_tree config channels stream = record { channels = channels; weights = default_weights; tree = config.tree; stream = stream }

-- with these numbers of codewords, any parts, each of which is listed once, have at most this many together
abbrev pub HaveAtMost : (SectionPart → ℕ) → ℕ → Type 0
HaveAtMost codewords most = (listed : List SectionPart) → AllPairs (λ p q. p ≢ q) listed → sum_by codewords listed ≤ most

module _ {D : Type 0} (d : Meaning D) (w : Width) where
  -- At the start of the bytes are a header without transforms, a tree of its own, which is at most this deep, and samples of these
  -- channels, coded whole by that tree.
  pub record CodesByOwnTree (deepest : ℕ) (channels : List Channel) (stream : ℕ) (bytes : List ℕ) (grids : List (Grid ℤ)) : Type 0 where
    pub tree_at : ℕ
    pub header : file_header.Stands bytes 0 own_header tree_at
    pub own : Config D
    pub samples_at : ℕ
    pub tree : IsTreeAt d bytes (node_limit channels) depth_limit tree_at own samples_at
    pub within : depth own.tree ≤ deepest
    pub end : ℕ
    pub coded : IsCodedWhole d w (part_by_tree own channels stream) bytes own.decoder samples_at grids end

module _ {D : Type 0} (d : Meaning D) (w : Width) (config : Config D) where
  -- From bit p on a header with these transforms is in the bytes, and after it samples of these channels are coded whole.
  pub record CodesBehindHeader (ts : List Transform) (channels : List Channel) (stream : ℕ) (bytes : List ℕ) (p : ℕ) (grids : List (Grid ℤ)) : Type 0 where
    pub samples_at : ℕ
    pub header : file_header.Stands bytes p (shared_header ts) samples_at
    pub end : ℕ
    pub coded : IsCodedWhole d w (part_by_tree config channels stream) bytes config.decoder samples_at grids end

  -- One section has all samples of an image: they are all in the global part.
  pub record IsOneSection (given : ChannelList) (group_dim : ℕ) (bytes : List ℕ) (p : ℕ) (image : List (Grid ℤ)) : Type 0 where
    pub ready : Preparation w given image
    pub one_part : length ready.coded.list.channels ≤ global_count group_dim ready.coded.list
    pub codes : CodesBehindHeader ready.transforms ready.coded.list.channels 0 bytes p ready.samples

  -- The first section has the header of an image, from bit p on, and the samples of the global part; and each group with
  -- samples has a section, with a header without transforms, by the frame's tree or by one of its own. These trees are at most as
  -- deep as the limit, and their codes have together at most as many codewords.
  pub record AreSections (given : ChannelList) (group_dim : ℕ) (trees : TreeLimits) (passes : List Pass) (first : List ℕ) (p : ℕ)
      (section_of : SectionPart → Option (List ℕ × ℕ)) (image : List (Grid ℤ)) : Type 0 where
    pub ready : Preparation w given image
    pub cut : IsTrue (can_cut group_dim ready.coded.list)
    pub global : CodesBehindHeader ready.transforms (part_channels group_dim passes ready.coded.list parts.Global) 0 first p
        (grids_in (pieces group_dim passes ready.coded.list parts.Global) ready.samples)
    pub codewords : SectionPart → ℕ
    pub few : HaveAtMost codewords trees.codewords
    pub groups : (part : SectionPart) → part ≢ parts.Global → 0 < cell_count (part_channels group_dim passes ready.coded.list part) →
        (bytes : List ℕ) × (stream : ℕ) × (section_of part ≡ Some (bytes, stream))
        × (CodesBehindHeader [] (part_channels group_dim passes ready.coded.list part) stream bytes 0
        (grids_in (pieces group_dim passes ready.coded.list part) ready.samples)
        ⊎ (CodesByOwnTree d w trees.depth (part_channels group_dim passes ready.coded.list part) stream bytes
        (grids_in (pieces group_dim passes ready.coded.list part) ready.samples)
        × HasCodewords (record { channels = part_channels group_dim passes ready.coded.list part; nb_meta = 0 }) bytes 0 (codewords part)))

-- The first section of a frame begins with the default factors and the tree that sections share, which is within the limits of the
-- frame; and from there on its sections have these channels, as samples of 32 bits.
pub record FrameCoding {D : Type 0} (d : Meaning D) (image : Image) (bytes : List ℕ) (frame : FrameAt) (grids : List (Grid ℤ)) : Type 0 where
  pub size : Size
  pub size_is : size ≡ frame_size image.size frame.header
  pub first : List ℕ
  pub first_is : first ≡ get_or (sections_in bytes frame) 0 []
  pub tree_at : ℕ
  pub start : StandsAt section_start first 0 true tree_at
  pub config : Config D
  pub end : ℕ
  pub tree : IsTreeAt d first (tree_limit size (channel_count image)) 2048 tree_at config end
  pub within : depth config.tree ≤ frame.trees.depth
  pub sections : AreSections d w32 config (channels_given image size) frame.header.group_dim frame.trees (passes_of (pass_shifts frame.header.passes)) first end
      (section_of (layout_in image frame.header) (sections_in bytes frame)) grids
