use Rattle.jxl_image_header.proofs.fields.+groups.Given as goal

abbrev pub decreases-groups : goal.decreases-groups
decreases-groups l = l.n
