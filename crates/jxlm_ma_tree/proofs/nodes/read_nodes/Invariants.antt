use Rattle.std.proofs.Common.{◌≡◌, ◌≤◌, length, map, ◌+◌, ◌-◌}
use Rattle.jxlm_bits.specs.Bits.{bytes_of, position_of}
use Rattle.jxlm_ma_tree.specs.Inner.DraftReading.{AllDrafts, node_of}
use Rattle.jxlm_ma_tree.specs.TreeReading.{limit_error, max_nodes, nodes_at}
use Rattle.jxlm_ma_tree.proofs.Accumulated.{with_front}
use Rattle.jxlm_ma_tree.proofs.nodes.read_nodes.Given as goal

abbrev pub invariant-loop-missing : goal.invariant-loop-missing
invariant-loop-missing g l = record {
  reads : nodes_at g.D.Decoder.meaning (bytes_of l.fn.bits) (limit_error l.fn.node_limit) (max_nodes l.fn.node_limit) 1 l.fn.decoder (position_of l.fn.bits)
      ≡ with_front (map node_of l.nodes.items) (nodes_at g.D.Decoder.meaning (bytes_of l.fn.bits) (limit_error l.fn.node_limit) (max_nodes l.fn.node_limit - length l.nodes.items) l.missing l.decoder (position_of l.bits));
  contexts : length (g.D.Decoder.meaning.cluster_map l.decoder) ≡ 6;
  drafts : AllDrafts (map node_of l.nodes.items);
  room : length l.nodes.items ≤ max_nodes l.fn.node_limit;
  few : l.missing ≤ length l.nodes.items + 1;
  bytes : bytes_of l.bits ≡ bytes_of l.fn.bits;
}

abbrev pub decreases-loop-missing : goal.decreases-loop-missing
decreases-loop-missing g l = max_nodes l.fn.node_limit - length l.nodes.items
