use Rattle.std.proofs.Common.{[], take, map, ℕ}
use Rattle.jxl_coding_codes.specs.Fields.{number_at}
use Rattle.jxl_coding_codes.specs.Reading.{steps, list_and_one}
use Rattle.jxlm_bit_writer.specs.Writes.{Writes}
use Rattle.jxl_coding_stream_write.proofs.head.write_numbers.Given as goal

abbrev pub invariant-loop-cluster : goal.invariant-loop-cluster
invariant-loop-cluster l = Writes l.fn.bits l.bits (steps (list_and_one (λ all q. number_at all q l.width)) l.cluster-index []) (map (λ (x : ℕ). x) (take l.cluster-index l.clusters))
