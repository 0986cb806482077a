-- Sections that an encoder wrote are those of a frame in a codestream (ISO/IEC 18181-1, frame: sections).
use Rattle.std.specs.Prelude.{◌≡◌, ◌≤◌, ℕ, ℤ, List}
use Rattle.std.specs.Int.{w32}
use Rattle.jxlm_base.specs.Grid.{Grid}
use Rattle.jxlm_groups.specs.Passes.{passes_of}
use Rattle.jxlm_section_split.specs.CutPicture.{one_pass}
use Rattle.jxlm_transform.specs.Channels.{ChannelList}
use Rattle.jxl_codestream.specs.Fronts.{FrameAt, layout_in}
use Rattle.jxl_codestream.specs.Layouts.{Layout}
use Rattle.jxl_codestream.specs.Starts.{tree_limit}
use Rattle.jxl_coding.specs.Parse.{decoder_at}
use Rattle.jxl_coding.specs.Tokens.{entropy}
use Rattle.jxl_encode_frame.specs.Codings.{FrameCoding}
use Rattle.jxl_encode_sections.specs.Sections.{AreFrameSections, most_codewords}
use Rattle.jxl_frame_header.specs.Frames.{frame_size}
use Rattle.jxl_frame_header.specs.Passes.{pass_shifts}
use Rattle.jxl_image_header.specs.Images.{Image}
use Rattle.jxl_lossless.specs.Frames.{channels_given}
use Rattle.jxl_lossless.specs.Sections.{sections_in}
use Rattle.jxl_picture.specs.Limits.{channel_count}

-- The frame has one pass, these channels, this layout and these groups; its tree may be as large and as deep as this, and the codes
-- of its groups' own trees may have as many codewords as an encoder's.
pub record IsFrameCut (image : Image) (frame : FrameAt) (given : ChannelList) (l : Layout) (group_dim node_limit deepest : ℕ) : Type 0 where
  pub passes : passes_of (pass_shifts frame.header.passes) ≡ one_pass
  pub channels : channels_given image (frame_size image.size frame.header) ≡ given
  pub layout : layout_in image frame.header ≡ l
  pub dim : frame.header.group_dim ≡ group_dim
  pub nodes : tree_limit (frame_size image.size frame.header) (channel_count image) ≡ node_limit
  pub depth : deepest ≤ frame.trees.depth
  pub codewords : most_codewords ≤ frame.trees.codewords

-- Where the sections of such a frame are those that were written, they code its channels.
abbrev pub SectionsAreCoding : Type 0
SectionsAreCoding = (image : Image) (bytes : List ℕ) (frame : FrameAt) (given : ChannelList) (l : Layout) (group_dim node_limit deepest : ℕ) (sections : List (List ℕ)) (grids : List (Grid ℤ)) →
    IsFrameCut image frame given l group_dim node_limit deepest → sections_in bytes frame ≡ sections →
    AreFrameSections w32 given l group_dim node_limit deepest sections grids → FrameCoding (entropy decoder_at) image bytes frame grids
