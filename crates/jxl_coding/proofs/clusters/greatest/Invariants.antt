use Rattle.std.proofs.Common.{◌≡◌}
use Rattle.jxl_coding.specs.Clusters.{greatest}
use Rattle.jxl_coding.proofs.clusters.greatest.Given as goal

abbrev pub invariant-loop-i : goal.invariant-loop-i
invariant-loop-i l = l.most ≡ greatest l.i l.clusters
