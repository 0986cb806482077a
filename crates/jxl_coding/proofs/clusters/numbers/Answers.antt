use Rattle.std.proofs.Common.{rules}
use Rattle.jxl_coding.specs.Clusters.{numbers}
use Rattle.jxl_coding.proofs.ClusterSteps.{numbers_more}
use Rattle.jxl_coding.proofs.clusters.numbers.Goals as goal

pub loop-i-init : goal.loop-i-init
unfolding numbers
loop-i-init c = search rules

pub loop-i-preserved : goal.loop-i-preserved
loop-i-preserved c = rw (numbers_more c.loop-i.i) (search rules)
