use Rattle.std.proofs.Common.{List, [], length, map, subst}
use Rattle.jxl_coding_codes.specs.IntegerConfigs.{config_at}
use Rattle.jxl_coding_codes.specs.Reading.{steps, list_and_one}
use Rattle.jxl_coding.specs.Parse.{distribution_step, nothing_coded}
use Rattle.jxl_coding_stream_write.specs.Codes.{coded_after}
use Rattle.jxl_coding_stream_write.specs.declared.cluster.ClusterWriter.{ClusterWriter}
use Rattle.jxlm_bit_writer.specs.Writes.{Writes}
use Rattle.jxl_coding_stream_write.proofs.HeadReads.{codes_written}
use Rattle.jxl_coding_stream_write.proofs.head.write_codes.Goals as goal

pub returns : goal.returns
returns c = λ clusters copies.
    codes_written c.args.writer.now c.requires.log c.args.bits.now c.put.new.self c.put-2.new.self c.write_configs.new.bits c.write_distributions.new.bits c.in_ok-put.ensures c.in_ok-put-2.ensures
    (subst (λ (xs : List ClusterWriter). Writes c.put-2.new.self c.write_configs.new.bits (steps (list_and_one (λ all q. config_at all c.args.writer.now.log q)) (length xs) []) (map (λ (x : ClusterWriter). x.config) xs))
    c.deref.ensures.value c.in_ok-write_configs.ensures)
    (subst (λ (xs : List ClusterWriter). Writes c.write_configs.new.bits c.write_distributions.new.bits (steps (distribution_step (map (λ (x : ClusterWriter). x.config) xs) c.args.writer.now.log) (length xs) nothing_coded) (coded_after c.args.writer.now.log nothing_coded xs))
    c.deref-2.ensures.value c.in_ok-write_distributions.ensures) clusters copies
