use Rattle.std.proofs.Common.{◌≡◌, ◌+◌, drop}
use Rattle.jxl_netpbm_read.specs.Words.{word_length as the_word_length}
use Rattle.jxl_netpbm_read.proofs.words.word_length.Given as goal

abbrev pub invariant-loop-i : goal.invariant-loop-i
invariant-loop-i l = the_word_length l.text ≡ l.i + the_word_length (drop l.i l.text)
