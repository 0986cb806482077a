-- The headers that the writer spells: each field that a record keeps is in the range of its spellings, and those whose
-- contents a record does not keep (names, spot colours, colour filters, extensions) are absent.
use Rattle.std.specs.Prelude.{ℕ, ◌*◌, ◌==◌, ◌&&◌, ◌||◌, not, nat_lt, nat_le, length, Bool, true, false, if◌then◌else◌, is_some}
use Rattle.std.specs.List.{list_all, list_any, range_with_len}
use Rattle.std.specs.Option.{option_map_or}
use Rattle.jxlm_bits.specs.declared.bits.U32Spec.TheVariants.{Const, Offset}
use Rattle.jxlm_bit_writer.specs.Fields.{is_spelled}
use Rattle.jxl_image_header.specs.declared.size.Size.{Size}
use Rattle.jxl_image_header.specs.declared.channel.BitDepth.{BitDepth}
use Rattle.jxl_image_header.specs.declared.channel.ExtraChannel.{ExtraChannel}
use Rattle.jxl_image_header.specs.declared.colour.Chromaticity.{Chromaticity}
use Rattle.jxl_image_header.specs.declared.colour.ColourEncoding.{ColourEncoding}
use Rattle.jxl_image_header.specs.declared.colour.ColourSpace.{ColourSpace}
use Rattle.jxl_image_header.specs.declared.colour.ColourSpace.TheVariants as spaces
use Rattle.jxl_image_header.specs.declared.colour.WhitePoint.{WhitePoint}
use Rattle.jxl_image_header.specs.declared.colour.WhitePoint.TheVariants as whites
use Rattle.jxl_image_header.specs.declared.colour.Primaries.{Primaries}
use Rattle.jxl_image_header.specs.declared.colour.Primaries.TheVariants as primary_sets
use Rattle.jxl_image_header.specs.declared.colour.TransferFunction.{TransferFunction}
use Rattle.jxl_image_header.specs.declared.colour.TransferFunction.TheVariants as functions
use Rattle.jxl_image_header.specs.declared.colour.RenderingIntent.{RenderingIntent}
use Rattle.jxl_image_header.specs.declared.colour.RenderingIntent.TheVariants as intents
use Rattle.jxl_image_header.specs.declared.colour.ToneMapping.{ToneMapping}
use Rattle.jxl_image_header.specs.declared.image.Animation.{Animation}
use Rattle.jxl_image_header.specs.Channels.{fits_float, is_alpha, is_spot_colour, is_cfa}
use Rattle.jxl_image_header.specs.Colours.{is_grey, is_xyb, is_positive, is_up_to, linear_limit}
use Rattle.jxl_image_header.specs.Sizes.{width_at}
use Rattle.jxl_image_header.specs.Images.{Image}

-- a side of a picture is from 1 to 2^30, of a preview from 1 to 5440
abbrev pub is_side : Bool → ℕ → Bool
is_side preview v = if preview then is_spelled (Offset 1 6) (Offset 65 8) (Offset 321 10) (Offset 1345 12) v else is_spelled (Offset 1 9) (Offset 1 13) (Offset 1 18) (Offset 1 30) v

-- the width is that of the height at one of the ratios
abbrev pub has_ratio : Size → Bool
has_ratio s = list_any (λ ratio. width_at ratio s.height == s.width) (range_with_len 1 7)

-- the size of a picture, or of a preview
abbrev pub is_size : Bool → Size → Bool
is_size preview s = is_side preview s.height && (is_side preview s.width || has_ratio s)

-- how often pictures change a second, and how often all are shown
abbrev pub is_animation : Animation → Bool
is_animation a =
    is_spelled (Const 100) (Const 1000) (Offset 1 10) (Offset 1 30) a.tps_numerator && is_spelled (Const 1) (Const 1001) (Offset 1 8) (Offset 1 10) a.tps_denominator &&
    is_spelled (Const 0) (Offset 0 3) (Offset 0 16) (Offset 0 32) a.num_loops

-- whole numbers of 1 to 31 bits, or floats
abbrev pub is_depth : BitDepth → Bool
is_depth d =
    if d.exp_bits == 0 then is_spelled (Const 8) (Const 10) (Const 12) (Offset 1 6) d.bits_per_sample && nat_lt d.bits_per_sample 32
    else is_spelled (Const 32) (Const 16) (Const 24) (Offset 1 6) d.bits_per_sample && fits_float d.bits_per_sample d.exp_bits

-- 8 bits, as by default
abbrev pub is_usual_depth : BitDepth → Bool
is_usual_depth d = (d.bits_per_sample == 8) && (d.exp_bits == 0)

-- an extra channel that is no spot colour and no colour filter, has no name, and is multiplied by only if it is alpha
abbrev pub is_channel : ExtraChannel → Bool
is_channel c =
    not (is_spot_colour c.kind) && not (is_cfa c.kind) && is_depth c.bit_depth && is_spelled (Const 0) (Const 3) (Const 4) (Offset 1 3) c.dim_shift &&
    (c.name_len == 0) && (is_alpha c.kind || not c.alpha_associated)

-- alpha as by default
abbrev pub is_usual_channel : ExtraChannel → Bool
is_usual_channel c = is_alpha c.kind && is_usual_depth c.bit_depth && (c.dim_shift == 0) && (c.name_len == 0) && not c.alpha_associated

-- coordinates are below 2^22, by their numbers
abbrev pub is_coordinate : ℕ → Bool
is_coordinate v = is_spelled (Offset 0 19) (Offset 524288 19) (Offset 1048576 20) (Offset 2097152 21) v

abbrev pub is_chromaticity : Chromaticity → Bool
is_chromaticity c = is_coordinate c.x && is_coordinate c.y

-- a white point with a number of its own, or with these coordinates; and the one by default
abbrev pub is_white : WhitePoint → Bool
is_white (whites.Custom c) = is_chromaticity c
is_white other = true

abbrev pub is_usual_white : WhitePoint → Bool
is_usual_white whites.D65 = true
is_usual_white other = false

-- primaries with a number of their own, or with these coordinates; and those by default
abbrev pub are_primaries : Primaries → Bool
are_primaries (primary_sets.Custom c) = is_chromaticity c.red && is_chromaticity c.green && is_chromaticity c.blue
are_primaries other = true

abbrev pub is_usual_primaries : Primaries → Bool
is_usual_primaries primary_sets.Srgb = true
is_usual_primaries other = false

-- a transfer function by an exponent from 1 in 8192 to 1, or by a curve; and the one by default
abbrev pub is_function : TransferFunction → Bool
is_function (functions.Gamma g) = nat_le g 10000000 && nat_le 10000000 (8192 * g)
is_function other = true

abbrev pub is_usual_function : TransferFunction → Bool
is_usual_function functions.Srgb = true
is_usual_function other = false

-- the intent and the space by default; the space that only a profile tells
abbrev pub is_usual_intent : RenderingIntent → Bool
is_usual_intent intents.Relative = true
is_usual_intent other = false

abbrev pub is_usual_space : ColourSpace → Bool
is_usual_space spaces.Rgb = true
is_usual_space other = false

abbrev pub is_unknown_space : ColourSpace → Bool
is_unknown_space spaces.Unknown = true
is_unknown_space other = false

-- The colours: what a profile, grey or XYB leaves untold is as by default, and only a profile tells an unknown space.
abbrev pub is_colour : ColourEncoding → Bool
is_colour c =
    (c.want_icc || not (is_unknown_space c.colour_space)) &&
    (if c.want_icc || is_xyb c.colour_space then is_usual_white c.white_point else is_white c.white_point) &&
    (if c.want_icc || (is_grey c.colour_space || is_xyb c.colour_space) then is_usual_primaries c.primaries else are_primaries c.primaries) &&
    (if c.want_icc || is_xyb c.colour_space then is_usual_function c.transfer_function else is_function c.transfer_function) &&
    (not c.want_icc || is_usual_intent c.rendering_intent)

abbrev pub is_usual_colour : ColourEncoding → Bool
is_usual_colour c =
    not c.want_icc && is_usual_space c.colour_space && is_usual_white c.white_point && is_usual_primaries c.primaries && is_usual_function c.transfer_function &&
    is_usual_intent c.rendering_intent

-- brightness, which the reader takes; and that by default
abbrev pub is_tone : ToneMapping → Bool
is_tone t = is_positive t.intensity_target && is_up_to t.intensity_target t.min_nits && is_up_to (linear_limit t.relative_to_max_display) t.linear_below

abbrev pub is_usual_tone : ToneMapping → Bool
is_usual_tone t = (t.intensity_target == 0x5BF8) && (t.min_nits == 0) && not t.relative_to_max_display && (t.linear_below == 0)

-- the fields that are present only if something of how the image is shown is told
abbrev pub has_more : Image → Bool
has_more h =
    not (h.orientation == 1) || is_some h.intrinsic_size || is_some h.preview || is_some h.animation || not (is_usual_tone h.tone_mapping)

-- something is not as by default
abbrev pub is_told : Image → Bool
is_told h =
    has_more h || not (is_usual_depth h.bit_depth) || not h.modular_16bit_buffers || not (length h.ec_info == 0) || not h.xyb_encoded || not (is_usual_colour h.colour_encoding)

-- The writer spells the header: its parts are spelled, and it has no extensions.
abbrev pub is_writable : Image → Bool
is_writable h =
    is_size false h.size && nat_le 1 h.orientation && nat_le h.orientation 8 && option_map_or (is_size false) h.intrinsic_size true &&
    option_map_or (is_size true) h.preview true && option_map_or is_animation h.animation true &&
    is_depth h.bit_depth && nat_le (length h.ec_info) 256 && list_all is_channel h.ec_info &&
    is_colour h.colour_encoding && is_tone h.tone_mapping && (h.extensions == 0)
