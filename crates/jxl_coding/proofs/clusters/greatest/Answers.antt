use Rattle.std.proofs.Common.{rules}
use Rattle.jxl_coding.specs.Clusters.{greatest}
use Rattle.jxl_coding.proofs.ClusterSteps.{greatest_more}
use Rattle.jxl_coding.proofs.clusters.greatest.Goals as goal

pub loop-i-init : goal.loop-i-init
unfolding greatest
loop-i-init c = search rules

pub loop-i-preserved : goal.loop-i-preserved
loop-i-preserved c = rw (greatest_more c.loop-i.i c.args.clusters.now) (search rules)
