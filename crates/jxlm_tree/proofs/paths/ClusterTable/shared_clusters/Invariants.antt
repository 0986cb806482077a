use Rattle.std.specs.Prelude.{◌≡◌, length, slice_index}
use Rattle.jxlm_tree.specs.Inner.Tables.{LeadTo}
use Rattle.jxlm_tree.proofs.paths.ClusterTable.shared_clusters.Given as goal

abbrev pub invariant-loop-place : goal.invariant-loop-place
invariant-loop-place l = record {
  count : length l.clusters.items ≡ l.place-index;
  lead : LeadTo l.fn.nodes l.fn.entries l.place-index l.fn.first (slice_index l.clusters.items);
}
