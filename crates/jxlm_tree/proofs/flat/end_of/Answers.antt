use Rattle.jxlm_tree.proofs.flat.end_of.Goals as goal

pub returns-then-goes_left : goal.returns-then-goes_left
returns-then-goes_left g c = rw c.if-goes_left.true c.end-left_end.ensures

pub returns-else-goes_left : goal.returns-else-goes_left
returns-else-goes_left g c = rw c.if-goes_left.false c.end-right_end.ensures
