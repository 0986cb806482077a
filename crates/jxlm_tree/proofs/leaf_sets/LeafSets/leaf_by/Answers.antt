use Rattle.std.proofs.Common.{arith}
use Rattle.jxlm_tree.proofs.leaf_sets.LeafSets.leaf_by.Goals as goal

pub returns-clause-leaf : goal.returns-clause-leaf
returns-clause-leaf c = λ t f are properties. are.leaf f c.first_left.result (c.first_left.ensures.first f properties)

pub returns-clause-stands : goal.returns-clause-stands
returns-clause-stands c = λ t are. are.stands c.first_left.result c.first_left.ensures.listed

pub returns-clause-multiplier : goal.returns-clause-multiplier
returns-clause-multiplier c = λ t are. are.multiplier c.first_left.result c.first_left.ensures.listed

pub returns-clause-cost : goal.returns-clause-cost
returns-clause-cost c = λ t are. let h = are.deep in let k = c.first_left.ensures.cost in omega arith
