use Rattle.std.proofs.Common.{◌≡◌}
use Rattle.jxl_coding.specs.Clusters.{are_used}
use Rattle.jxl_coding.proofs.clusters.are_used.Given as goal

abbrev pub invariant-loop-cluster : goal.invariant-loop-cluster
invariant-loop-cluster l = l.all ≡ are_used l.cluster l.clusters
