use Rattle.std.proofs.Common.{ℕ, List, length, subst}
use Rattle.jxl_coding.specs.Parse.{clusters_or_one, clusters_at}
use Rattle.jxlm_bit_writer.specs.Writes.{Writes}
use Rattle.jxl_coding_stream_write.proofs.HeadReads.{head_written}
use Rattle.jxl_coding_stream_write.proofs.head.write_mapped_head.Goals as goal

pub returns : goal.returns
returns c =
    head_written c.args.writer.now c.args.bits.now c.put.new.self c.write_coded_clusters.new.bits c.write_own_codes.new.bits c.in_ok-put.ensures
    (subst (λ (xs : List ℕ). Writes c.put.new.self c.write_coded_clusters.new.bits (clusters_or_one (clusters_at (length xs)) (length xs)) xs) c.deref.ensures.value c.in_ok-write_coded_clusters.ensures)
    c.in_ok-write_own_codes.ensures
