use Rattle.jxlm_lanes.proofs.SqueezeLaws.{squeeze_loses_nothing}
use Rattle.jxlm_base.proofs.laws.squeeze_loses_nothing.Goals as goal

pub returns : goal.returns
returns c = squeeze_loses_nothing
