use Rattle.jxl_netpbm_read.proofs.parts.+bits_within.Given as goal

abbrev pub decreases-bits_within : goal.decreases-bits_within
decreases-bits_within l = l.most
