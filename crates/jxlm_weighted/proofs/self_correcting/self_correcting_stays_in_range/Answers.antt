use Rattle.jxlm_weighted.proofs.Ranges.{always_in_range}
use Rattle.jxlm_weighted.proofs.self_correcting.self_correcting_stays_in_range.Goals as goal

pub returns : goal.returns
returns c = always_in_range
