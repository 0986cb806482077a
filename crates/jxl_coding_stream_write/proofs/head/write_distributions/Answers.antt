use Rattle.std.proofs.Common.{◌∙◌, ap, arith}
use Rattle.jxl_coding_stream_write.specs.declared.cluster.ClusterWriter.{ClusterWriter}
use Rattle.jxl_coding_stream_write.proofs.HeadReads.{codes_start, codes_next, codes_all}
use Rattle.jxl_coding_stream_write.proofs.head.write_distributions.Goals as goal

pub loop-code-init : goal.loop-code-init
loop-code-init c = codes_start c.args.codes.now c.args.log c.args.bits.now

pub loop-code-preserved : goal.loop-code-preserved
loop-code-preserved c =
    codes_next c.args.codes.now c.args.log c.loop-code.code-index c.code-item.result c.args.bits.now c.loop-code.bits c.write_distribution.new.bits c.loop-code-test.true c.code-item.is
    (ap (λ (x : ClusterWriter). x.slots.log) c.code-item.is ∙ c.requires.logs c.loop-code.code-index c.code-item.result c.loop-code-test.true) c.loop-code.invariant c.in_ok-write_distribution.ensures

pub returns : goal.returns
returns c =
    codes_all c.args.codes.now c.args.log c.loop-code.code-index c.args.bits.now c.loop-code.bits
    (let e = c.loop-code-test.false in let n = c.loop-code.auto.code-index-end in omega (arith, e, n)) c.loop-code.invariant
