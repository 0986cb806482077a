use Rattle.std.proofs.Common.{◌≡◌, ◌≤◌, List, Some, ◌++◌, length, map}
use Rattle.jxlm_ma_tree.specs.Inner.Building.{trees_in}
use Rattle.jxlm_ma_tree.specs.Inner.DraftReading.{node_of}
use Rattle.jxlm_ma_tree.specs.Inner.Queue.{deepest}
use Rattle.jxlm_ma_tree.specs.Tree.{Node}
use Rattle.jxlm_ma_tree.specs.TreeReading.{leaf_count, with_clusters}
use Rattle.jxlm_ma_tree.specs.declared.leaf.Leaf.{Leaf}
use Rattle.jxlm_ma_tree.proofs.Listing.{queue_of}
use Rattle.jxlm_ma_tree.proofs.build.build.Given as goal

abbrev pub invariant-loop-node : goal.invariant-loop-node
invariant-loop-node l = record {
  rest : List (Node Leaf);
  whole : map node_of l.fn.nodes.items ≡ map node_of l.nodes.items ++ rest;
  numbered : l.unnumbered ≡ leaf_count (map node_of l.nodes.items);
  taken : queue_of (with_clusters l.fn.clusters l.unnumbered rest) ≡ Some (trees_in l.queue.items);
  shallow : deepest (trees_in l.queue.items) ≤ l.fn.depth_limit;
}

abbrev pub decreases-loop-node : goal.decreases-loop-node
decreases-loop-node l = length l.nodes.items
