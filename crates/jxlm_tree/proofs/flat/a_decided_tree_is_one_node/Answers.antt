use Rattle.jxlm_tree.proofs.OneNode.{one-known, one-left}
use Rattle.jxlm_tree.proofs.flat.a_decided_tree_is_one_node.Goals as goal

pub returns : goal.returns
returns c = record { left = one-left; known = one-known }
