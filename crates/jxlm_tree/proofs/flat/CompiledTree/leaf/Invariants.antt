use Rattle.std.proofs.Common.{reverse}
use Rattle.jxlm_tree.specs.Inner.Walking.{Walked}
use Rattle.jxlm_tree.proofs.flat.CompiledTree.leaf.Given as goal

abbrev pub invariant-loop-leaf : goal.invariant-loop-leaf
invariant-loop-leaf g l = Walked g.P.PlaceProperties.gives l.properties (reverse l.self.nodes.items) l.self.root l.place l.initial.steps l.steps

abbrev pub decreases-loop-leaf : goal.decreases-loop-leaf
decreases-loop-leaf g l = l.place
