use Rattle.jxlm_inverse.proofs.PaletteColours.{difference_none, product_size}
use Rattle.jxlm_inverse.proofs.palette.difference.Goals as goal

pub returns-then-c-ge3-clause-value : goal.returns-then-c-ge3-clause-value
returns-then-c-ge3-clause-value c = difference_none c.args.depth c.args.k c.args.c c.if-c-ge3.true

pub returns-clause-bound : goal.returns-clause-bound
returns-clause-bound c = product_size c.listed_difference.result c.delta_step.result c.listed_difference.ensures.bound c.delta_step.ensures.bound
