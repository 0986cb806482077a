use Rattle.std.proofs.Common.{[], take, map}
use Rattle.jxl_coding_codes.specs.IntegerConfigs.{config_at}
use Rattle.jxl_coding_codes.specs.Reading.{steps, list_and_one}
use Rattle.jxl_coding_stream_write.specs.declared.cluster.ClusterWriter.{ClusterWriter}
use Rattle.jxlm_bit_writer.specs.Writes.{Writes}
use Rattle.jxl_coding_stream_write.proofs.head.write_configs.Given as goal

abbrev pub invariant-loop-code : goal.invariant-loop-code
invariant-loop-code l = Writes l.fn.bits l.bits (steps (list_and_one (λ all q. config_at all l.log q)) l.code-index []) (map (λ (x : ClusterWriter). x.config) (take l.code-index l.codes))
