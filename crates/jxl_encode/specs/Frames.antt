-- The sections of a picture's frame, as they are written (ISO/IEC 18181-1, frame: sections).
use Rattle.std.specs.Prelude.{ℕ, List}
use Rattle.std.specs.Int.{w32}
use Rattle.jxl_codestream.specs.Layouts.{Layout, layout_of}
use Rattle.jxl_codestream.specs.Starts.{tree_limit}
use Rattle.jxl_encode_sections.specs.Sections.{AreFrameSections}
use Rattle.jxl_image_header.specs.Images.{Image, image_of}
use Rattle.jxl_lossless.specs.Frames.{channels_given}
use Rattle.jxl_picture.specs.Limits.{channel_count}
use Rattle.jxl_picture.specs.declared.picture.Picture.{Picture}

-- how the frame of a picture is cut: into groups with sides of 256
abbrev pub cut_of : Image → Layout
cut_of image = layout_of image.size 256 1

-- These are the sections of the frame of a picture.
abbrev pub AreSectionsOf : Picture → List (List ℕ) → Type 0
AreSectionsOf picture sections =
    AreFrameSections w32 (channels_given (image_of picture.header) picture.header.size) (cut_of (image_of picture.header)) 256
    (tree_limit picture.header.size (channel_count (image_of picture.header))) 128 sections picture.channels.items
