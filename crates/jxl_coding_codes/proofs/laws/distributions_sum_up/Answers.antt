use Rattle.jxl_coding_codes.proofs.DistributionSums.{sums}
use Rattle.jxl_coding_codes.proofs.laws.distributions_sum_up.Goals as goal

pub returns : goal.returns
returns c = sums
