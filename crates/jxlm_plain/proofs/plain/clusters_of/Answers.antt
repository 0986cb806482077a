use Rattle.std.proofs.Common.{rules, ◌<◌}
use Rattle.std.proofs.lemmas.Result.{err_from_is_err_and}
use Rattle.std.proofs.lemmas.List.Elements.{All-push}
use Rattle.jxlm_bits.specs.Bits.{bytes_of, position_of}
use Rattle.jxlm_plain.specs.Plain.{cluster_at}
use Rattle.jxlm_plain.proofs.ItemLoop.{goes_on, refused}
use Rattle.jxlm_plain.proofs.plain.clusters_of.Goals as goal

pub returns-in_err-cluster-clause-gives : goal.returns-in_err-cluster-clause-gives
returns-in_err-cluster-clause-gives c =
    let p = err_from_is_err_and c.from_residual.result c.from_residual.ensures.1 in
    rw (p.1, p.2)
    (refused (cluster_at (bytes_of c.args.bits.now) c.args.count) c.in_err-cluster.field-0.0 c.loop.clusters.items c.args.contexts c.loop.counter
    (position_of c.loop.bits) _ c.loop-test.true
    (rw c.loop.invariant.bytes at c.in_err-cluster.ensures.gives) c.loop.invariant.read)

pub loop-preserved : goal.loop-preserved
loop-preserved c = record {
  bytes = search rules;
  below = rw c.in_ok-push.ensures.items (All-push (λ k. k < c.args.count) c.loop.clusters.items c.in_ok-cluster.cluster c.loop.invariant.below c.in_ok-cluster.ensures.below);
  read = rw c.in_ok-push.ensures.items
      (goes_on (cluster_at (bytes_of c.args.bits.now) c.args.count) c.loop.clusters.items c.args.contexts c.loop.counter (position_of c.loop.bits) (position_of c.cluster_of.new.bits)
      c.in_ok-cluster.cluster _ c.loop-test.true (rw c.loop.invariant.bytes at c.in_ok-cluster.ensures.gives) c.loop.invariant.read);
}
