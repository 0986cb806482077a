use Rattle.jxl_coding_codes.proofs.fields.+least_width.Given as goal

abbrev pub decreases-least_width : goal.decreases-least_width
decreases-least_width l = l.n
