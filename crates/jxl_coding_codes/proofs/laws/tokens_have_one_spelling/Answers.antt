use Rattle.jxl_coding_codes.proofs.OneSpelling.{one_spelling}
use Rattle.jxl_coding_codes.proofs.SomeSpelling.{some_spelling}
use Rattle.jxl_coding_codes.proofs.laws.tokens_have_one_spelling.Goals as goal

pub returns : goal.returns
returns c = record {
  some = λ config token valid beyond fits. some_spelling config valid token beyond fits;
  one = λ config s t r q token valid. one_spelling config valid s t r q token;
}
