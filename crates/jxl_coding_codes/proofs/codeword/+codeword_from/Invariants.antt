use Rattle.std.proofs.Common.{length}
use Rattle.jxl_coding_codes.proofs.codeword.+codeword_from.Given as goal

abbrev pub decreases-codeword_from : goal.decreases-codeword_from
decreases-codeword_from l = length l.counts.now
