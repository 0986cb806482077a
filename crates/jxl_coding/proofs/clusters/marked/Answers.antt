use Rattle.std.proofs.Common.{rules}
use Rattle.jxl_coding.proofs.ClusterSteps.{none_marked, mark_more}
use Rattle.jxl_coding.proofs.clusters.marked.Goals as goal

pub loop-i-init : goal.loop-i-init
loop-i-init c = record { many = search rules; so_far = none_marked }

pub loop-i-preserved : goal.loop-i-preserved
loop-i-preserved c = record {
  many = search rules;
  so_far = mark_more c.loop-i.marks c.args.clusters.now c.loop-i.i c.loop-i.invariant.many (search rules) (search rules) c.loop-i.invariant.so_far;
}
