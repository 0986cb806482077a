use Rattle.std.proofs.Common.{length}
use Rattle.jxl_coding_codes.proofs.lengths.+length_code_lengths.Given as goal

abbrev pub decreases-length_code_lengths : goal.decreases-length_code_lengths
decreases-length_code_lengths l = length l.places.now
