-- Depths of samples, and extra channels (ISO/IEC 18181-1, image header: BitDepth, ExtraChannelInfo).
use Rattle.std.specs.Prelude.{ℕ, ◌+◌, ◌==◌, ◌&&◌, nat_lt, nat_le, Bool, true, false, if◌then◌else◌, Option, Some, None, codes}
use Rattle.jxlm_bits.specs.Grammar.{Grammar, flag, part, u32, give, either, ◌>>=◌}
use Rattle.jxlm_bits.specs.declared.bits.U32Spec.TheVariants.{Const, Offset}
use Rattle.jxl_image_header.specs.Fields.{number_where, name, ignored_bytes, bundle_follows, variant, when}
use Rattle.jxl_image_header.specs.declared.channel.BitDepth.{BitDepth}
use Rattle.jxl_image_header.specs.declared.channel.ExtraChannel.{ExtraChannel}
use Rattle.jxl_image_header.specs.declared.channel.ExtraChannelKind.{ExtraChannelKind}
use Rattle.jxl_image_header.specs.declared.channel.ExtraChannelKind.TheVariants.{Alpha, Depth, SpotColour, SelectionMask, Black, Cfa, Thermal, Unknown, Optional}

-- floats have 2 to 8 bits of exponent, and besides these and their sign 2 to 23 of mantissa
abbrev pub fits_float : ℕ → ℕ → Bool
fits_float bits exponent = nat_le 2 exponent && nat_le exponent 8 && nat_le (exponent + 3) bits && nat_le bits (exponent + 24)

-- how a sample is stored: as a float, or as a whole number of 1 to 31 bits
unfoldable pub bit_depth : Grammar BitDepth
bit_depth = do
  float ← flag
  bits ← either float (u32 (Const 32) (Const 16) (Const 24) (Offset 1 6))
      (number_where (codes "bits_per_sample") (λ n. nat_lt n 32) (u32 (Const 8) (Const 10) (Const 12) (Offset 1 6)))
  exponent ← when float (number_where (codes "exponent_bits") (fits_float bits) (part (Offset 1 4))) 0
  give (record { bits_per_sample = bits; exp_bits = exponent })

-- the kinds of extra channels by their numbers (ISO/IEC 18181-1, ExtraChannelType)
abbrev pub kind_of : ℕ → Option ExtraChannelKind
kind_of v =
    if v == 0 then Some Alpha else if v == 1 then Some Depth else if v == 2 then Some SpotColour else
    if v == 3 then Some SelectionMask else if v == 4 then Some Black else if v == 5 then Some Cfa else
    if v == 6 then Some Thermal else if v == 15 then Some Unknown else if v == 16 then Some Optional else None

-- it is alpha, the black of CMYK, a spot colour, a channel of a colour filter array
abbrev pub is_alpha : ExtraChannelKind → Bool
is_alpha Alpha = true
is_alpha other = false

abbrev pub is_black : ExtraChannelKind → Bool
is_black Black = true
is_black other = false

abbrev pub is_spot_colour : ExtraChannelKind → Bool
is_spot_colour SpotColour = true
is_spot_colour other = false

abbrev pub is_cfa : ExtraChannelKind → Bool
is_cfa Cfa = true
is_cfa other = false

-- an extra channel, by default alpha of 8 bits: its kind, depth, shift and name; and what its kind has, of alpha whether
-- colours were multiplied by it, the four numbers of a spot colour, the number of a colour filter's channel
unfoldable pub extra_channel : Grammar ExtraChannel
extra_channel = do
  follows ← bundle_follows true
  kind ← when follows (variant (codes "ExtraChannelType") kind_of) Alpha
  depth ← when follows bit_depth (record { bits_per_sample = 8; exp_bits = 0 })
  shift ← when follows (u32 (Const 0) (Const 3) (Const 4) (Offset 1 3)) 0
  length ← when follows name 0
  premultiplied ← when (follows && is_alpha kind) flag false
  _ ← when (is_spot_colour kind) (ignored_bytes 8) tt
  _ ← when (is_cfa kind) (u32 (Const 1) (Offset 0 2) (Offset 3 4) (Offset 19 8)) 0
  give (record { kind = kind; bit_depth = depth; dim_shift = shift; name_len = length; alpha_associated = premultiplied })
