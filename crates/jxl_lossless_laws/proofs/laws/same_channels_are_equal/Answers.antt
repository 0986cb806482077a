use Rattle.jxl_lossless_laws.proofs.FullChannels.{same_channels_equal}
use Rattle.jxl_lossless_laws.proofs.laws.same_channels_are_equal.Goals as goal

pub returns : goal.returns
returns c = same_channels_equal
