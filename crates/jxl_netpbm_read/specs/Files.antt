-- What a netpbm file holds, as JPEG XL describes it: an image header, and the channels.
use Rattle.std.specs.Prelude.{◌≡◌, ℕ, ◌+◌, ◌<◌, ◌⊎◌, nat_le, ℤ, List, [], ◌∷◌, length, slice_get, Bool, false, if◌then◌else◌, Some, None, Ok, Err, Result}
use Rattle.jxlm_base.specs.Grid.{Grid}
use Rattle.jxl_image_header.specs.Images.{Image}
use Rattle.jxl_image_header.specs.declared.channel.BitDepth.{BitDepth}
use Rattle.jxl_image_header.specs.declared.channel.ExtraChannel.{ExtraChannel}
use Rattle.jxl_image_header.specs.declared.channel.ExtraChannelKind.TheVariants.{Alpha}
use Rattle.jxl_image_header.specs.declared.colour.ColourEncoding.{ColourEncoding}
use Rattle.jxl_image_header.specs.declared.colour.ColourSpace.TheVariants as spaces
use Rattle.jxl_image_header.specs.declared.colour.Primaries.TheVariants as primary_sets
use Rattle.jxl_image_header.specs.declared.colour.RenderingIntent.TheVariants.{Relative}
use Rattle.jxl_image_header.specs.declared.colour.TransferFunction.{TransferFunction}
use Rattle.jxl_image_header.specs.declared.colour.TransferFunction.TheVariants as functions
use Rattle.jxl_image_header.specs.declared.colour.WhitePoint.TheVariants as whites
use Rattle.jxl_netpbm_read.specs.Headers.{header_from}
use Rattle.jxl_netpbm_read.specs.Samples.{HasSamples, HoldsChannel, HasSampleAbove, channels_of, samples_size}
use Rattle.jxl_netpbm_read.specs.declared.error.NetpbmError.{NetpbmError}
use Rattle.jxl_netpbm_read.specs.declared.error.NetpbmError.TheVariants.{OutOfMemory, Sample, Truncated}
use Rattle.jxl_netpbm_read.specs.declared.header.Header.{Header}
use Rattle.jxl_netpbm_read.specs.declared.header.Storage.{Storage}
use Rattle.jxl_netpbm_read.specs.declared.header.Storage.TheVariants.{Numbers, Floats}

-- how samples are stored in a codestream: whole numbers of the same number of bits, floats of 32 bits with 8 of exponent
abbrev pub depth_by : Storage → BitDepth
depth_by (Numbers bits) = record { bits_per_sample = bits; exp_bits = 0 }
depth_by (Floats little) = record { bits_per_sample = 32; exp_bits = 8 }

-- 16 bits are enough for each number while it is decoded: samples of up to 12 bits
abbrev pub is_narrow : Storage → Bool
is_narrow (Numbers bits) = nat_le bits 12
is_narrow (Floats little) = false

-- whole numbers are coded by the curve of sRGB, floats are linear
abbrev pub function_by : Storage → TransferFunction
function_by (Numbers bits) = functions.Srgb
function_by (Floats little) = functions.Linear

-- the colours: grey, or red, green and blue; white and primaries of sRGB, and no profile
abbrev pub colour_by : Header → ColourEncoding
colour_by h = record {
  want_icc = false;
  colour_space = if h.grey then spaces.Grey else spaces.Rgb;
  white_point = whites.D65;
  primaries = primary_sets.Srgb;
  transfer_function = function_by h.storage;
  rendering_intent = Relative;
}

-- alpha of the picture's size and depth, by which colours are not multiplied
abbrev pub alpha_by : Header → ExtraChannel
alpha_by h = record { kind = Alpha; bit_depth = depth_by h.storage; dim_shift = 0; name_len = 0; alpha_associated = false }

-- the image header of a picture with this header: what a netpbm file does not say is as by default
abbrev pub image_by : Header → Image
image_by h = record {
  size = record { width = h.width; height = h.height };
  orientation = 1;
  intrinsic_size = None;
  preview = None;
  animation = None;
  bit_depth = depth_by h.storage;
  modular_16bit_buffers = is_narrow h.storage;
  ec_info = if h.alpha then alpha_by h ∷ [] else [];
  xyb_encoded = false;
  colour_encoding = colour_by h;
  tone_mapping = record { intensity_target = 0x5BF8; min_nits = 0; relative_to_max_display = false; linear_below = 0 };
  extensions = 0;
}

-- The file is one of this picture: it begins with its header, and holds each sample of each channel at its place.
pub record IsNetpbmOf (file : List ℕ) (image : Image) (channels : List (Grid ℤ)) : Type 0 where
  pub header : Header
  pub is_header : header_from file ≡ Ok header
  pub image_is : image ≡ image_by header
  pub long : HasSamples header file
  pub count : length channels ≡ channels_of header
  pub samples : (k : ℕ) (g : Grid ℤ) → slice_get channels k ≡ Some g → HoldsChannel header file k g

-- The samples after this header do not make a picture: the file ends before them, or one is above the maximum.
abbrev pub FailSamples : Header → List ℕ → NetpbmError → Type 0
FailSamples h file e =
    ((length file < h.start + samples_size h) × (e ≡ Truncated)) ⊎ (HasSamples h file × HasSampleAbove h file × (e ≡ Sample))

abbrev pub FailsAfter : Result Header NetpbmError → List ℕ → NetpbmError → Type 0
FailsAfter (Err error) file e = e ≡ error
FailsAfter (Ok h) file e = FailSamples h file e

-- Why a file is read as no picture: the first error of its header, or that of its samples; or memory.
abbrev pub IsErrorOf : List ℕ → NetpbmError → Type 0
IsErrorOf file e = (e ≡ OutOfMemory) ⊎ FailsAfter (header_from file) file e

-- a file is one of one picture: of one header, and of one list of channels
abbrev pub HasOnePicture : List ℕ → Type 0
HasOnePicture file = (image other : Image) (channels others : List (Grid ℤ)) →
    IsNetpbmOf file image channels → IsNetpbmOf file other others → (image ≡ other) × (channels ≡ others)
