use Rattle.std.proofs.Common.{arith, ap, ◌∙◌, ◌++◌, ℕ, List, subst, length, []}
use Rattle.std.proofs.lemmas.List.{map-id}
use Rattle.jxlm_bit_writer.specs.Written.{digits}
use Rattle.jxl_coding_codes.specs.Fields.{number_at}
use Rattle.jxl_coding_codes.specs.Reading.{steps, list_and_one}
use Rattle.jxlm_bit_writer.specs.Writes.{Writes}
use Rattle.jxl_coding_fields_write.proofs.ReadingLaws.{writes_none}
use Rattle.jxl_coding_fields_write.proofs.NumberFields.{number_writes}
use Rattle.jxl_coding_stream_write.proofs.HeadReads.{push_next, push_all}
use Rattle.jxl_coding_stream_write.proofs.head.write_numbers.Goals as goal

pub loop-cluster-init : goal.loop-cluster-init
loop-cluster-init c = writes_none (list_and_one (λ all q. number_at all q c.args.width)) [] c.args.bits.now

pub loop-cluster-preserved : goal.loop-cluster-preserved
loop-cluster-preserved c =
    push_next (λ all q. number_at all q c.args.width) (λ (x : ℕ). x) c.args.clusters.now c.loop-cluster.cluster-index 0 c.args.bits.now c.loop-cluster.bits c.put.new.self c.loop-cluster-test.true c.loop-cluster.invariant
    (number_writes c.args.width _ c.loop-cluster.bits c.put.new.self (let h = c.requires.fits c.loop-cluster.cluster-index 0 c.loop-cluster-test.true in omega (arith, h))
    (c.in_ok-put.ensures ∙ ap (λ (x : ℕ). c.loop-cluster.bits ++ digits c.args.width x) c.from.ensures))

pub returns : goal.returns
returns c =
    subst (λ (xs : List ℕ). Writes c.args.bits.now c.loop-cluster.bits (steps (list_and_one (λ all q. number_at all q c.args.width)) (length c.args.clusters.now) []) xs) (map-id c.args.clusters.now)
    (push_all (λ all q. number_at all q c.args.width) (λ (x : ℕ). x) c.args.clusters.now c.loop-cluster.cluster-index c.args.bits.now c.loop-cluster.bits
    (let e = c.loop-cluster-test.false in let n = c.loop-cluster.auto.cluster-index-end in omega (arith, e, n)) c.loop-cluster.invariant)
