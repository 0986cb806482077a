use Rattle.std.proofs.Common.{take, map}
use Rattle.jxl_coding_codes.specs.Reading.{steps}
use Rattle.jxl_coding.specs.Parse.{distribution_step, nothing_coded}
use Rattle.jxl_coding_stream_write.specs.Codes.{coded_after}
use Rattle.jxl_coding_stream_write.specs.declared.cluster.ClusterWriter.{ClusterWriter}
use Rattle.jxlm_bit_writer.specs.Writes.{Writes}
use Rattle.jxl_coding_stream_write.proofs.head.write_distributions.Given as goal

abbrev pub invariant-loop-code : goal.invariant-loop-code
invariant-loop-code l = Writes l.fn.bits l.bits (steps (distribution_step (map (λ (x : ClusterWriter). x.config) l.codes) l.log) l.code-index nothing_coded) (coded_after l.log nothing_coded (take l.code-index l.codes))
