-- The channels of a file as a caller is told them.
use Rattle.std.specs.Prelude.{◌≡◌, ℕ, List}
use Rattle.jxl_c_picture.specs.Channels.{channels_of}
use Rattle.jxl_c_picture.specs.declared.channels.CChannel.{CChannel}
use Rattle.jxl_c.specs.Headers.{HasHeaders, shown_image}
use Rattle.jxl_c.specs.declared.limits.CLimits.{CLimits}

-- These are the channels of the picture of a file.
pub record AreChannelsOfFile (limits : CLimits) (file : List ℕ) (channels : List CChannel) : Type 0 where
  pub has : HasHeaders limits file
  pub are : channels ≡ channels_of (shown_image limits file has)
