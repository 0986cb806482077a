-- The image header (ISO/IEC 18181-1, image header: ImageMetadata and what is before and after it).
use Rattle.std.specs.Prelude.{ℕ, ◌+◌, ◌/◌, ◌%◌, ◌==◌, ◌&&◌, nat_le, nat_lt, List, [], ◌∷◌, Bool, true, false, if◌then◌else◌, Option, Some, None, is_some, codes}
use Rattle.std.specs.Option.{option_or}
use Rattle.jxlm_bits.specs.Grammar.{Grammar, number, flag, u32, give, repeated, ◌>>=◌}
use Rattle.jxlm_bits.specs.declared.bits.U32Spec.TheVariants.{Const, Offset}
use Rattle.jxl_image_header.specs.Fields.{number_where, extensions, optional, ignored_bytes, bundle_follows, when}
use Rattle.jxl_image_header.specs.Sizes.{size}
use Rattle.jxl_image_header.specs.Channels.{bit_depth, extra_channel}
use Rattle.jxl_image_header.specs.Colours.{colour_encoding, tone_mapping}
use Rattle.jxl_image_header.specs.declared.size.Size.{Size}
use Rattle.jxl_image_header.specs.declared.channel.BitDepth.{BitDepth}
use Rattle.jxl_image_header.specs.declared.channel.ExtraChannel.{ExtraChannel}
use Rattle.jxl_image_header.specs.declared.colour.ColourEncoding.{ColourEncoding}
use Rattle.jxl_image_header.specs.declared.colour.ToneMapping.{ToneMapping}
use Rattle.jxl_image_header.specs.declared.image.Animation.{Animation}
use Rattle.jxl_image_header.specs.declared.image.ImageHeader.{ImageHeader}
use Rattle.jxl_image_header.specs.declared.refusal.Refusal.{Refusal}
use Rattle.jxl_image_header.specs.declared.refusal.Refusal.TheVariants.{Preview, Animation as Animated, ExtraSize, Xyb}

-- an image header, seen without its memory
pub record Image : Type 0 where
  pub size : Size
  pub orientation : ℕ
  pub intrinsic_size : Option Size
  pub preview : Option Size
  pub animation : Option Animation
  pub bit_depth : BitDepth
  pub modular_16bit_buffers : Bool
  pub ec_info : List ExtraChannel
  pub xyb_encoded : Bool
  pub colour_encoding : ColourEncoding
  pub tone_mapping : ToneMapping
  pub extensions : ℕ

abbrev pub image_of : ImageHeader → Image
image_of h = record {
  size = h.size;
  orientation = h.orientation;
  intrinsic_size = h.intrinsic_size;
  preview = h.preview;
  animation = h.animation;
  bit_depth = h.bit_depth;
  modular_16bit_buffers = h.modular_16bit_buffers;
  ec_info = h.ec_info.items;
  xyb_encoded = h.xyb_encoded;
  colour_encoding = h.colour_encoding;
  tone_mapping = h.tone_mapping;
  extensions = h.extensions;
}

-- how often pictures change a second, as a fraction; how often all are shown, 0 for ever; whether there are time codes
unfoldable pub animation : Grammar Animation
animation = do
  numerator ← u32 (Const 100) (Const 1000) (Offset 1 10) (Offset 1 30)
  denominator ← u32 (Const 1) (Const 1001) (Offset 1 8) (Offset 1 10)
  loops ← u32 (Const 0) (Offset 0 3) (Offset 0 16) (Offset 0 32)
  give (record { tps_numerator = numerator; tps_denominator = denominator; num_loops = loops; have_timecodes = (← flag) })

-- what is not looked at: floats of 16 bits, the matrix of XYB of 16, and by a mask weights of upsampling, 15, 55, 210
unfoldable pub matrices : Bool → Grammar (Unit {0})
matrices xyb = do
  follows ← bundle_follows true
  opsin ← bundle_follows (follows && xyb)
  _ ← when opsin (ignored_bytes 32) tt
  mask ← when follows (number 3) 0
  _ ← when (mask % 2 == 1) (ignored_bytes 30) tt
  _ ← when (mask / 2 % 2 == 1) (ignored_bytes 110) tt
  when (mask / 4 == 1) (ignored_bytes 420) tt

-- how many extra channels there are: at most 256, as level 10 allows
abbrev pub channel_count : Grammar ℕ
channel_count = number_where (codes "num_extra_channels") (λ n. nat_le n 256) (u32 (Const 0) (Const 1) (Offset 2 4) (Offset 1 12))

-- The image header: the first 16 bits of each codestream; its size; how it is shown; how samples are stored; whether
-- 16 bits are enough for all of decoding; channels beside the colours; what colours mean; which extensions there are.
unfoldable pub image_header : Grammar Image
image_header = do
  _ ← number_where (codes "signature") (λ v. v == 0x0AFF) (number 16)
  sides ← size false
  follows ← bundle_follows true
  more ← when follows flag false
  turned ← when more (number 3) 0
  own ← when more (optional (size false)) None
  preview ← when more (optional (size true)) None
  animation ← when more (optional animation) None
  depth ← when follows bit_depth (record { bits_per_sample = 8; exp_bits = 0 })
  narrow ← when follows flag true
  extra ← when follows (channel_count >>= λ n. repeated n extra_channel) []
  xyb ← when follows flag true
  colour ← colour_encoding follows
  tone ← tone_mapping more
  extensions ← when follows extensions 0
  _ ← matrices xyb
  give (record {
    size = sides;
    orientation = turned + 1;
    intrinsic_size = own;
    preview = preview;
    animation = animation;
    bit_depth = depth;
    modular_16bit_buffers = narrow;
    ec_info = extra;
    xyb_encoded = xyb;
    colour_encoding = colour;
    tone_mapping = tone;
    extensions = extensions;
  })

-- what extra channels have that is not supported, by the first that has something
abbrev pub channels_refusal : List ExtraChannel → Option Refusal
channels_refusal [] = None
channels_refusal (c ∷ cs) = if nat_lt 3 c.dim_shift then Some ExtraSize else channels_refusal cs

-- what an image has that is not supported, by the first of its fields that says so
abbrev pub image_refusal : Image → Option Refusal
image_refusal h =
    if is_some h.preview then Some Preview else
    if is_some h.animation then Some Animated else
    option_or (channels_refusal h.ec_info) (if h.xyb_encoded then Some Xyb else None)
