use Rattle.jxlm_lanes.proofs.ColourLaws.{colour_is_lossless, colour_is_one_to_one}
use Rattle.jxlm_base.proofs.laws.colour_loses_nothing.Goals as goal

pub returns : goal.returns
returns c = record { lossless = colour_is_lossless; one = colour_is_one_to_one }
