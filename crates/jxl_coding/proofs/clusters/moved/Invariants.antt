use Rattle.std.proofs.Common.{◌≡◌, length}
use Rattle.jxl_coding.specs.Clusters.{moved_first}
use Rattle.jxl_coding.proofs.clusters.moved.Given as goal

abbrev pub invariant-loop-i : goal.invariant-loop-i
invariant-loop-i l = record {
  list : l.list.items ≡ (moved_first l.i l.places).list;
  clusters : l.clusters.items ≡ (moved_first l.i l.places).clusters;
  many : length l.list.items ≡ 256;
}
