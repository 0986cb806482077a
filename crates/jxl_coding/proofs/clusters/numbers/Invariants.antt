use Rattle.std.proofs.Common.{◌≡◌, length}
use Rattle.jxl_coding.specs.Clusters.{numbers}
use Rattle.jxl_coding.proofs.clusters.numbers.Given as goal

abbrev pub invariant-loop-i : goal.invariant-loop-i
invariant-loop-i l = record {
  items : l.list.items ≡ numbers l.i;
  many : length l.list.items ≡ l.i;
}
