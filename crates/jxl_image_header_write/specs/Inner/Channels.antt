-- Extra channels of an image header, as their function writes them.
use Rattle.std.specs.Prelude.{List}
use Rattle.jxlm_bits.specs.Grammar.{Grammar, repeated, ◌>>=◌}
use Rattle.jxl_image_header.specs.Channels.{extra_channel}
use Rattle.jxl_image_header.specs.Images.{channel_count}
use Rattle.jxl_image_header.specs.declared.channel.ExtraChannel.{ExtraChannel}

-- the channels beside the colours, after their number
abbrev pub extra_channels : Grammar (List ExtraChannel)
extra_channels = channel_count >>= λ n. repeated n extra_channel
