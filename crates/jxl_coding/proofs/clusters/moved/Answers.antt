use Rattle.std.proofs.Common.{rules, ◌∙◌}
use Rattle.jxl_coding.specs.Clusters.{moved_first}
use Rattle.jxl_coding.proofs.ClusterSteps.{moved_more}
use Rattle.jxl_coding.proofs.clusters.moved.Goals as goal

pub loop-i-init : goal.loop-i-init
unfolding moved_first
loop-i-init c = search rules

pub loop-i-preserved : goal.loop-i-preserved
loop-i-preserved c = rw (moved_more c.loop-i.i c.args.places.now, ← c.loop-i.invariant.list, ← c.loop-i.invariant.clusters) (record {
  list = c.in_ok-cluster.ensures.list;
  clusters = rw (← c.in_ok-cluster.ensures.cluster) c.in_ok-push.ensures.items;
  many = c.in_ok-cluster.ensures.many ∙ c.loop-i.invariant.many;
})
