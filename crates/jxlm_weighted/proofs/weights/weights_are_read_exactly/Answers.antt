use Rattle.jxlm_weighted.proofs.WeightsLaws.{exact-wp_header}
use Rattle.jxlm_weighted.proofs.weights.weights_are_read_exactly.Goals as goal

pub returns : goal.returns
returns c = exact-wp_header
