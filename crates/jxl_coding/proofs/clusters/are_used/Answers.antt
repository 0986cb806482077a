use Rattle.std.proofs.Common.{rules}
use Rattle.jxl_coding.specs.Clusters.{are_used}
use Rattle.jxl_coding.proofs.ClusterSteps.{used_more}
use Rattle.jxl_coding.proofs.clusters.are_used.Goals as goal

pub loop-cluster-init : goal.loop-cluster-init
unfolding are_used
loop-cluster-init c = search rules

pub loop-cluster-preserved : goal.loop-cluster-preserved
loop-cluster-preserved c = rw (used_more c.loop-cluster.cluster c.args.clusters.now) (search rules)
