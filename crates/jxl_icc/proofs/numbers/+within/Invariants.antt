use Rattle.jxl_icc.proofs.numbers.+within.Given as goal

abbrev pub decreases-within : goal.decreases-within
decreases-within l = l.most
