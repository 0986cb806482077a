-- The names of extra channels, one by one.
use Rattle.std.specs.Prelude.{ℕ, List, Bool, if◌then◌else◌}
use Rattle.jxl_image_header.specs.declared.channel.ExtraChannel.{ExtraChannel}
use Rattle.jxl_info.specs.Channels.{kinds, kinds_but}

-- what is still to be written, where the channel that is printed with the colours has been passed or not
abbrev pub rest_kinds : Bool → Bool → Bool → List ExtraChannel → List ℕ
rest_kinds passed grey black cs = if passed then kinds cs else kinds_but grey black cs
