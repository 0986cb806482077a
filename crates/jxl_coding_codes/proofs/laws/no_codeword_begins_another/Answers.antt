use Rattle.jxl_coding_codes.proofs.CodewordOrder.{begins_none}
use Rattle.jxl_coding_codes.proofs.laws.no_codeword_begins_another.Goals as goal

pub returns : goal.returns
returns c = begins_none
