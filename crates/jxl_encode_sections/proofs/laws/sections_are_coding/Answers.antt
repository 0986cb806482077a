use Rattle.jxl_encode_sections.proofs.Codings.{written_are_coding}
use Rattle.jxl_encode_sections.proofs.laws.sections_are_coding.Goals as goal

pub returns : goal.returns
returns c = written_are_coding
