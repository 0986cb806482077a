-- Parts of a U64, of extensions and other bits that are passed, and of an image header, as their functions read them.
use Rattle.std.specs.Prelude.{ℕ, zero, suc, ◌+◌, ◌*◌, sum, List, Bool}
use Rattle.jxlm_bits.specs.Grammar.{Grammar, number, give, repeated, ◌>>=◌}
use Rattle.jxl_image_header.specs.Channels.{extra_channel}
use Rattle.jxl_image_header.specs.Images.{channel_count}
use Rattle.jxl_image_header.specs.declared.channel.ExtraChannel.{ExtraChannel}
use Rattle.jxl_image_header.specs.Fields.{groups, long, ignored_bytes, when}

-- the number of n groups and the last one is below this
abbrev pub group_bound : ℕ → ℕ
group_bound zero = 16
group_bound (suc n) = 256 * group_bound n

-- a U64 that has groups: 12 bits, and those
abbrev pub grouped : Grammar ℕ
grouped = number 12 >>= λ v. groups 6 >>= λ rest. give (v + 4096 * rest)

-- n bits that are not looked at
abbrev pub ignored_bits : ℕ → Grammar (Unit {0})
ignored_bits n = number n >>= λ v. give tt

-- how many bits n extensions have: a U64 for each
unfoldable pub extension_bits : ℕ → Grammar ℕ
extension_bits n = repeated n long >>= λ sizes. give (sum sizes)

-- the three lists of weights of upsampling, each there or not
abbrev pub weights : Bool → Bool → Bool → Grammar (Unit {0})
weights first second third =
    when first (ignored_bytes 30) tt >>= λ a. when second (ignored_bytes 110) tt >>= λ b. when third (ignored_bytes 420) tt

-- the channels beside the colours, after their number
abbrev pub extra_channels : Grammar (List ExtraChannel)
extra_channels = channel_count >>= λ n. repeated n extra_channel
