-- The text of a picture in the netpbm formats, and in decimal numbers.
use Rattle.std.specs.Prelude.{ℕ, ◌+◌, ◌-◌, ◌==◌, ◌&&◌, ◌||◌, not, ℤ, List, [], ◌∷◌, ◌++◌, map, take, drop, length, nat_le, Bool, true, if◌then◌else◌, Option, Some, None, codes}
use Rattle.std.specs.List.{list_all}
use Rattle.std.specs.Fmt.{decimal}
use Rattle.jxlm_base.specs.Grid.{Grid}
use Rattle.jxl_text.specs.Printing.{image_text, line}
use Rattle.jxl_image_header.specs.Channels.{fits_float}
use Rattle.jxl_image_header.specs.Images.{Image}
use Rattle.jxl_image_header.specs.declared.channel.BitDepth.{BitDepth}
use Rattle.jxl_image_header.specs.declared.channel.ExtraChannel.{ExtraChannel}
use Rattle.jxl_picture.specs.Pictures.{is_grey, colour_count, has_full_alpha, is_full_alpha}
use Rattle.jxl_netpbm.specs.Rasters.{Layer, maximum, raster_text, float_rows}
use Rattle.jxl_netpbm.specs.declared.format.Format.{Format}
use Rattle.jxl_netpbm.specs.declared.format.Format.TheVariants.{Pgm, Ppm, Pam, Pfm, Text}

-- whole numbers of this number of bits at most
abbrev pub is_whole : ℕ → BitDepth → Bool
is_whole most d = (d.exp_bits == 0) && nat_le 1 d.bits_per_sample && nat_le d.bits_per_sample most

-- a channel that does not keep a picture from being a PAM file: it is no alpha of the picture's size, or one of whole numbers
abbrev pub can_stand : ExtraChannel → Bool
can_stand c = not (is_full_alpha c) || is_whole 31 c.bit_depth

-- the format can hold the picture's colours, PAM its alpha of the same size too, and decimal numbers all of it
abbrev pub suits : Format → Image → Bool
suits Pgm image = is_grey image && is_whole 16 image.bit_depth
suits Ppm image = is_whole 16 image.bit_depth
suits Pam image = is_whole 16 image.bit_depth && list_all can_stand image.ec_info
suits Pfm image = fits_float image.bit_depth.bits_per_sample image.bit_depth.exp_bits
suits Text image = true

-- how many channels the format leaves out
abbrev pub left_out : Format → Image → ℕ
left_out Text image = 0
left_out Pam image = if has_full_alpha image then length image.ec_info - 1 else length image.ec_info
left_out format image = length image.ec_info

-- the format in which a picture is written where none is asked for: PGM or PPM, PAM where there is alpha of the picture's size,
-- PFM for floats
abbrev pub usual_whole : Image → Format
usual_whole image = if has_full_alpha image then Pam else if is_grey image then Pgm else Ppm

abbrev pub usual : Image → Option Format
usual image = if suits Pfm image then Some Pfm else if suits (usual_whole image) image then Some (usual_whole image) else None

-- the maximum of colours
abbrev pub most_of : Image → ℕ
most_of image = maximum image.bit_depth.bits_per_sample

-- the channels of colours
abbrev pub colours_of : Image → List (Grid ℤ) → List (Grid ℤ)
colours_of image channels = take (colour_count image) channels

abbrev pub colour_layers : Image → List (Grid ℤ) → List Layer
colour_layers image channels = map (λ g. record { grid = g; own = most_of image }) (colours_of image channels)

-- the first alpha channel of the picture's size among extra ones, where there is one
abbrev pub first_alpha : List (Grid ℤ) → List ExtraChannel → List Layer
first_alpha (g ∷ gs) (c ∷ cs) = if is_full_alpha c then record { grid = g; own = maximum c.bit_depth.bits_per_sample } ∷ [] else first_alpha gs cs
first_alpha _ _ = []

abbrev pub pam_layers : Image → List (Grid ℤ) → List Layer
pam_layers image channels = colour_layers image channels ++ first_alpha (drop (colour_count image) channels) image.ec_info

-- the sides, with a space between
abbrev pub size_line : Image → List ℕ
size_line image = line (decimal image.size.width ++ codes " " ++ decimal image.size.height)

-- what a PAM file holds
abbrev pub tuple_type : Image → List ℕ
tuple_type image =
    if is_grey image then (if has_full_alpha image then codes "GRAYSCALE_ALPHA" else codes "GRAYSCALE")
    else (if has_full_alpha image then codes "RGB_ALPHA" else codes "RGB")

-- how many channels a PAM file has
abbrev pub tuple_count : Image → ℕ
tuple_count image = if has_full_alpha image then colour_count image + 1 else colour_count image

-- a PGM file for grey, a PPM file for red, green and blue
abbrev pub pnm_magic : Image → List ℕ
pnm_magic image = if is_grey image then codes "P5" else codes "P6"

abbrev pub pnm_head : List ℕ → Image → List ℕ
pnm_head magic image = line magic ++ size_line image ++ line (decimal (most_of image))

abbrev pub pam_head : Image → List ℕ
pam_head image =
    line (codes "P7") ++ line (codes "WIDTH " ++ decimal image.size.width) ++ line (codes "HEIGHT " ++ decimal image.size.height)
    ++ line (codes "DEPTH " ++ decimal (tuple_count image)) ++ line (codes "MAXVAL " ++ decimal (most_of image))
    ++ line (codes "TUPLTYPE " ++ tuple_type image) ++ line (codes "ENDHDR")

-- a negative scale says that the least significant byte comes first
abbrev pub pfm_head : Image → List ℕ
pfm_head image = line (if is_grey image then codes "Pf" else codes "PF") ++ size_line image ++ line (codes "-1.0")

-- the samples of these layers
abbrev pub raster_of : Image → List Layer → List ℕ
raster_of image layers = raster_text (most_of image) layers image.size.width image.size.height

-- the text of a picture of whole numbers without alpha, after this magic
abbrev pub pnm_text : List ℕ → Image → List (Grid ℤ) → List ℕ
pnm_text magic image channels = pnm_head magic image ++ raster_of image (colour_layers image channels)

-- the text of a picture: a head, and its samples
abbrev pub text_of : Format → Image → List (Grid ℤ) → List ℕ
text_of Pgm image channels = pnm_text (codes "P5") image channels
text_of Ppm image channels = pnm_text (pnm_magic image) image channels
text_of Pam image channels = pam_head image ++ raster_of image (pam_layers image channels)
text_of Pfm image channels =
    pfm_head image ++ float_rows image.bit_depth (colours_of image channels) image.size.width image.size.height image.size.height
text_of Text image channels = image_text channels
