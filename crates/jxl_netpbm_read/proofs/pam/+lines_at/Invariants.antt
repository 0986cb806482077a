use Rattle.jxl_netpbm_read.proofs.pam.+lines_at.Given as goal

abbrev pub decreases-lines_at : goal.decreases-lines_at
decreases-lines_at l = l.most
