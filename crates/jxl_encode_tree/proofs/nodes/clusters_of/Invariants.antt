use Rattle.std.proofs.Common.{◌≡◌, map, take}
use Rattle.jxl_encode_tree.specs.Inner.Contexts.{cluster_in}
use Rattle.jxl_encode_tree.proofs.nodes.clusters_of.Given as goal

abbrev pub invariant-loop-context : goal.invariant-loop-context
invariant-loop-context l = l.clusters.items ≡ map (cluster_in l.separate) (take l.context-index l.contexts)
