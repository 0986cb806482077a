use Rattle.std.proofs.Common.{◌≡◌, take}
use Rattle.jxlm_encode_streams.specs.TreeStreams.{tree_contexts}
use Rattle.jxl_encode_tree.proofs.nodes.contexts_of.Given as goal

abbrev pub invariant-loop-node : goal.invariant-loop-node
invariant-loop-node l = l.contexts.items ≡ tree_contexts (take l.node-index l.nodes)
