use Rattle.jxl_icc_write.proofs.numbers.+push_number.Given as goal

abbrev pub decreases-push_number : goal.decreases-push_number
decreases-push_number l = l.more
