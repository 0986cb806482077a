use Rattle.jxlm_encode_tokens.proofs.OneList.{one_list_each}
use Rattle.jxlm_encode_tokens.proofs.laws.each_part_has_one_list.Goals as goal

pub returns : goal.returns
returns c = one_list_each
