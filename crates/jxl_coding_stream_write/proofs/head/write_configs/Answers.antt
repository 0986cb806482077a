use Rattle.std.proofs.Common.{arith, subst, []}
use Rattle.jxl_coding_codes.specs.IntegerConfigs.{config_at}
use Rattle.jxl_coding_codes.specs.Reading.{list_and_one}
use Rattle.jxl_coding_stream_write.specs.declared.cluster.ClusterWriter.{ClusterWriter}
use Rattle.jxlm_bit_writer.specs.Writes.{Writes}
use Rattle.jxl_coding_fields_write.proofs.ReadingLaws.{writes_none}
use Rattle.jxl_coding_stream_write.proofs.HeadReads.{push_next, push_all}
use Rattle.jxl_coding_stream_write.proofs.head.write_configs.Goals as goal

pub loop-code-init : goal.loop-code-init
loop-code-init c = writes_none (list_and_one (λ all q. config_at all c.args.log q)) [] c.args.bits.now

pub loop-code-preserved : goal.loop-code-preserved
loop-code-preserved c =
    push_next (λ all q. config_at all c.args.log q) (λ (x : ClusterWriter). x.config) c.args.codes.now c.loop-code.code-index c.code-item.result c.args.bits.now c.loop-code.bits c.write_config.new.bits c.loop-code-test.true
    c.loop-code.invariant
    (subst (λ (x : ClusterWriter). Writes c.loop-code.bits c.write_config.new.bits (λ bytes p. config_at bytes c.args.log p) x.config) c.code-item.is c.in_ok-write_config.ensures)

pub returns : goal.returns
returns c =
    push_all (λ all q. config_at all c.args.log q) (λ (x : ClusterWriter). x.config) c.args.codes.now c.loop-code.code-index c.args.bits.now c.loop-code.bits
    (let e = c.loop-code-test.false in let n = c.loop-code.auto.code-index-end in omega (arith, e, n)) c.loop-code.invariant
