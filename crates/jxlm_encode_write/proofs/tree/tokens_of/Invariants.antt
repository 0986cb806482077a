use Rattle.std.proofs.Common.{◌≡◌}
use Rattle.std.specs.Prelude.{take}
use Rattle.jxlm_encode_write.specs.Nodes.{tree_tokens}
use Rattle.jxlm_encode_write.proofs.tree.tokens_of.Given as goal

abbrev pub invariant-loop-node : goal.invariant-loop-node
invariant-loop-node l = l.tokens.items ≡ tree_tokens (take l.node-index l.nodes)
