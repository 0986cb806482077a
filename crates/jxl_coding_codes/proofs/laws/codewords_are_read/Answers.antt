use Rattle.jxl_coding_codes.proofs.CodewordReads.{read}
use Rattle.jxl_coding_codes.proofs.laws.codewords_are_read.Goals as goal

pub returns : goal.returns
returns c = λ lengths bytes symbol p short several has stands. read lengths bytes symbol p short has stands several
