use Rattle.jxlm_tree.proofs.FlatTrees.{walks_by_properties}
use Rattle.jxlm_tree.proofs.flat.a_flat_tree_walks_by_properties.Goals as goal

pub returns : goal.returns
returns c = walks_by_properties
