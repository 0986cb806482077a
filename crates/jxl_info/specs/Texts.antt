-- What `--info` prints of a file: lines of text.
use Rattle.std.specs.Prelude.{ℕ, List, [], ◌++◌, Bool, if◌then◌else◌, Option, Some, None, is_some, codes}
use Rattle.std.specs.Fmt.{decimal}
use Rattle.jxl_image_header.specs.Images.{Image}
use Rattle.jxl_image_header.specs.declared.image.Animation.{Animation}
use Rattle.jxl_image_header.specs.declared.size.Size.{Size}
use Rattle.jxl_text.specs.Printing.{line}
use Rattle.jxl_codestream.specs.declared.error.FrontError.{FrontError}
use Rattle.jxl_info.specs.Channels.{channels_text, depth_text, extra_lines}
use Rattle.jxl_info.specs.Colours.{colour_text}
use Rattle.jxl_info.specs.Names.{orientation_name}
use Rattle.jxl_info.specs.Reasons.{reason_text}

-- the codestream stands in boxes
unfoldable pub container_line : Bool → List ℕ
container_line boxed = if boxed then line (codes "JPEG XL file format container (ISO/IEC 18181-2)") else []

unfoldable pub size_text : Size → List ℕ
size_text size = decimal size.width ++ codes "x" ++ decimal size.height

unfoldable pub image_kind : Image → List ℕ
image_kind image = if is_some image.animation then codes "animation" else codes "image"

-- samples that are not XYB may have been coded without loss
unfoldable pub loss : Image → List ℕ
loss image = if image.xyb_encoded then codes "lossy" else codes "(possibly) lossless"

-- size, depth and channels
unfoldable pub image_line : Image → List ℕ
image_line image = line (codes "JPEG XL " ++ image_kind image ++ codes ", " ++ size_text image.size ++ codes ", " ++ loss image
    ++ codes ", " ++ depth_text image.bit_depth ++ codes " " ++ channels_text image)

-- a smaller picture comes first
unfoldable pub preview_line : Option Size → List ℕ
preview_line (Some size) = line (codes "Preview image: " ++ size_text size)
preview_line None = []

unfoldable pub flag_text : Bool → List ℕ
flag_text flag = if flag then codes "1" else codes "0"

-- when the pictures of an animation change; 0 loops are shown for ever
unfoldable pub rate_lines : Animation → List ℕ
rate_lines a =
    line (codes "ticks per second (numerator / denominator): " ++ decimal a.tps_numerator ++ codes " / " ++ decimal a.tps_denominator)
    ++ line (codes "num_loops: " ++ decimal a.num_loops) ++ line (codes "have_timecodes: " ++ flag_text a.have_timecodes)

unfoldable pub animation_lines : Option Animation → List ℕ
animation_lines (Some a) = rate_lines a
animation_lines None = []

-- the size at which the picture is to be shown, if the header signals it
unfoldable pub intrinsic_line : Option Size → List ℕ
intrinsic_line (Some size) = line (codes "Intrinsic dimensions: " ++ size_text size)
intrinsic_line None = []

-- how the picture is to be displayed
unfoldable pub display_lines : Image → List ℕ
display_lines image = preview_line image.preview ++ animation_lines image.animation ++ intrinsic_line image.intrinsic_size
    ++ line (codes "Orientation: " ++ decimal image.orientation ++ codes " (" ++ orientation_name image.orientation ++ codes ")")

-- why the picture is not decoded, where that is so
unfoldable pub reason_line : Option FrontError → List ℕ
reason_line (Some error) = line (reason_text error)
reason_line None = []

-- what `--info` prints of a file whose codestream has this image header, and is not decoded for this reason
abbrev pub info_text : Bool → Image → Option FrontError → List ℕ
info_text boxed image reason = container_line boxed ++ image_line image ++ extra_lines image.ec_info ++ display_lines image
    ++ line (colour_text image.colour_encoding) ++ reason_line reason
