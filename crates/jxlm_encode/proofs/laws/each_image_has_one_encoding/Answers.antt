use Rattle.jxlm_encode.proofs.OneEncoding.{first_is_one, second_is_one}
use Rattle.jxlm_encode.proofs.laws.each_image_has_one_encoding.Goals as goal

pub returns-clause-first : goal.returns-clause-first
returns-clause-first c = first_is_one

pub returns-clause-second : goal.returns-clause-second
returns-clause-second c = second_is_one
