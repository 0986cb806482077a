use Rattle.std.proofs.Common.{◌+◌, ◌≤◌, drop}
use Rattle.std.specs.Prelude.{◌↔◌}
use Rattle.jxlm_encode.specs.Inner.Listing.{AreNodesOf}
use Rattle.jxlm_encode.specs.Listing.{ListsOneTree}
use Rattle.jxlm_encode.proofs.listing.lists_one_tree.Given as goal

abbrev pub invariant-loop-node : goal.invariant-loop-node
invariant-loop-node l = record {
  few : l.missing ≤ l.node-index + 1;
  left : AreNodesOf l.missing (drop l.node-index l.nodes) ↔ ListsOneTree l.nodes;
}
