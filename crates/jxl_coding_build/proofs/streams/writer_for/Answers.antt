use Rattle.std.proofs.Common.{◌≡◌, ◌+◌, ◌∙◌, ℕ, ap, sym, subst, length, Ok, arith}
use Rattle.std.proofs.lemmas.List.{length_push}
use Rattle.jxl_coding_codes.specs.declared.config.IntegerConfig.{IntegerConfig}
use Rattle.jxl_coding_stream_write.specs.declared.cluster.ClusterWriter.{ClusterWriter}
use Rattle.jxl_coding_build.specs.Histograms.{AllOccur}
use Rattle.jxl_coding_stream_write.specs.Heads.{FitsCluster}
use Rattle.jxl_coding_build.proofs.Maps.{slots_all}
use Rattle.jxl_coding_build.proofs.Pushed.{pushed_all}
use Rattle.jxl_coding_build.proofs.streams.writer_for.Goals as goal

pub loop-cluster-preserved : goal.loop-cluster-preserved
loop-cluster-preserved c = record {
  many = ap length c.in_ok-push_code.ensures ∙ length_push c.loop-cluster.codes.items c.in_ok-code.code ∙ ap (λ (n : ℕ). n + 1) c.loop-cluster.invariant.many;
  logs =
      pushed_all (λ (k : ℕ) (x : ClusterWriter). x.slots.log ≡ 8) c.loop-cluster.codes.items c.push_code.new.codes.items c.in_ok-code.code c.loop-cluster.cluster c.in_ok-push_code.ensures
      c.loop-cluster.invariant.many c.loop-cluster.invariant.logs c.in_ok-code.ensures.log;
  within = let t = c.loop-cluster-test.true in omega (arith, t);
  head =
      pushed_all (λ (k : ℕ) (x : ClusterWriter). FitsCluster 8 x) c.loop-cluster.codes.items c.push_code.new.codes.items c.in_ok-code.code c.loop-cluster.cluster c.in_ok-push_code.ensures
      c.loop-cluster.invariant.many c.loop-cluster.invariant.head c.in_ok-code.ensures.head;
  occur =
      pushed_all (λ (k : ℕ) (x : ClusterWriter). AllOccur x.config k c.args.tokens.now (length c.args.tokens.now) x.slots.counts.items) c.loop-cluster.codes.items c.push_code.new.codes.items c.in_ok-code.code
      c.loop-cluster.cluster c.in_ok-push_code.ensures c.loop-cluster.invariant.many c.loop-cluster.invariant.occur
      (subst (λ (h : IntegerConfig). AllOccur h c.loop-cluster.cluster c.args.tokens.now (length c.args.tokens.now) c.in_ok-code.code.slots.counts.items) (sym c.in_ok-code.ensures.config) c.in_ok-code.ensures.occur);
}

pub returns-clause-head : goal.returns-clause-head
returns-clause-head c =
    let m : length c.loop-cluster.codes.items ≡ c.args.many = (let e = c.loop-cluster.invariant.many in let t = c.loop-cluster-test.false in let w = c.loop-cluster.invariant.within in omega (arith, e, t, w)) in
    record {
      logs = omega arith;
      used = c.requires.used ∙ ap (λ (n : ℕ). Ok n) (sym m);
      each = c.loop-cluster.invariant.head;
    }

pub returns-clause-slots : goal.returns-clause-slots
returns-clause-slots c =
    slots_all c.loop-cluster.codes.items c.args.tokens.now c.args.many (let e = c.loop-cluster.invariant.many in let t = c.loop-cluster-test.false in let w = c.loop-cluster.invariant.within in omega (arith, e, t, w))
    c.loop-cluster.invariant.occur c.requires.tokens
