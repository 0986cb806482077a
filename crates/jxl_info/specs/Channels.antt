-- The channels of a picture.
use Rattle.std.specs.Prelude.{ℕ, ◌==◌, ◌&&◌, not, List, [], ◌∷◌, ◌++◌, Bool, if◌then◌else◌, codes}
use Rattle.std.specs.List.{list_any, flat_map, enumerate_from}
use Rattle.std.specs.Fmt.{decimal}
use Rattle.jxl_image_header.specs.Channels.{is_alpha, is_black}
use Rattle.jxl_image_header.specs.Images.{Image}
use Rattle.jxl_image_header.specs.declared.channel.BitDepth.{BitDepth}
use Rattle.jxl_image_header.specs.declared.channel.ExtraChannel.{ExtraChannel}
use Rattle.jxl_image_header.specs.declared.channel.ExtraChannelKind.{ExtraChannelKind}
use Rattle.jxl_text.specs.Printing.{line}
use Rattle.jxl_picture.specs.Pictures.{has_alpha, is_grey}
use Rattle.jxl_info.specs.Names.{kind_name}

-- how samples are stored
unfoldable pub depth_text : BitDepth → List ℕ
depth_text d =
    decimal d.bits_per_sample ++ codes "-bit" ++ (if d.exp_bits == 0 then [] else codes " float (" ++ decimal d.exp_bits ++ codes " exponent bits)")

-- one of them is black
abbrev pub has_black : Image → Bool
has_black image = list_any (λ c. is_black c.kind) image.ec_info

-- the kind of colours, with black or alpha
unfoldable pub colours_name : Image → List ℕ
colours_name image =
    if is_grey image then codes "Grayscale" else if has_black image then codes "CMYK" else if has_alpha image then codes "RGBA" else codes "RGB"

-- of extra channels beside colours, grey or not and with black or not, the first of this kind is printed with the colours
abbrev pub is_with_colours : Bool → Bool → ExtraChannelKind → Bool
is_with_colours grey black kind = not grey && (if black then is_black kind else is_alpha kind)

-- the kinds of extra channels, each after a plus
abbrev pub kinds : List ExtraChannel → List ℕ
kinds channels = flat_map (λ c. codes "+" ++ kind_name c.kind) channels

-- those but the first that is printed with the colours
abbrev pub kinds_but : Bool → Bool → List ExtraChannel → List ℕ
kinds_but grey black [] = []
kinds_but grey black (c ∷ cs) = if is_with_colours grey black c.kind then kinds cs else codes "+" ++ kind_name c.kind ++ kinds_but grey black cs

unfoldable pub channels_text : Image → List ℕ
channels_text image = colours_name image ++ kinds_but (is_grey image) (has_black image) image.ec_info

-- its sides are those of the picture by 2 to the power of its shift
unfoldable pub shift_text : ℕ → List ℕ
shift_text shift = if shift == 0 then [] else codes ", dim_shift " ++ decimal shift

-- colours were multiplied by it
unfoldable pub premultiplied_text : Bool → List ℕ
premultiplied_text premultiplied = if premultiplied then codes ", premultiplied" else []

-- what the headers say of an extra channel
unfoldable pub extra_line : ℕ → ExtraChannel → List ℕ
extra_line number c = line (codes "extra channel " ++ decimal number ++ codes ": " ++ kind_name c.kind ++ codes ", " ++ depth_text c.bit_depth
    ++ shift_text c.dim_shift ++ premultiplied_text c.alpha_associated)

-- the extra channels, which are numbered from 0
abbrev pub extra_lines : List ExtraChannel → List ℕ
extra_lines channels = flat_map (λ c. extra_line c.0 c.1) (enumerate_from 0 channels)
