use Rattle.jxlm_header.proofs.HeaderLaws.{exact-opening}
use Rattle.jxlm_header.proofs.laws.each_opening_is_read_exactly.Goals as goal

pub returns : goal.returns
returns c = exact-opening
