use Rattle.jxl_coding_codes.proofs.CodewordReads.{some_stands}
use Rattle.jxl_coding_codes.proofs.laws.full_codes_have_a_codeword_for_all_bits.Goals as goal

pub returns : goal.returns
returns c = some_stands
