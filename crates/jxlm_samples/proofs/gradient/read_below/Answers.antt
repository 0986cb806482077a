use Rattle.std.proofs.Common.{rules, ◌≡◌, map, length, arith, refl}
use Rattle.std.proofs.lemmas.List.{length-map}
use Rattle.jxlm_samples.proofs.GradientCells.{below_ends, below_more, by_table, known_now, left_first, step_by_table, zero_sample}
use Rattle.jxlm_samples.proofs.RowReads.{none_read}
use Rattle.jxlm_samples.proofs.gradient.read_below.Goals as goal

pub loop-x-init : goal.loop-x-init
loop-x-init g c =
    let zero = zero_sample g.S.Sealed.width g.S.Sealed.to_int g.S.Sealed.from_int g.met.S.Sealed.to_int_from_int c.from_i32.result c.from_i32.ensures in
    record { len = refl; below = record { reads = none_read _ _ _ _ _; left = left_first _ _ c.sample_above-w.ensures zero } }

pub read_varint_with_multiplier_clustered-requires : goal.read_varint_with_multiplier_clustered-requires
read_varint_with_multiplier_clustered-requires g c =
    let h = c.loop-x.invariant in
    let same = h.len in
    known_now g.met.D.Decoder.lawful c.requires.leaves (omega (arith, same, c.loop-x-test.true)) h.below _ c.sample_above-n.ensures _ (by_table _ _ _ _ c.in-Table.is (c.cluster_of-cluster.ensures.cluster _ c.entries-kept.ensures))

pub loop-x-preserved : goal.loop-x-preserved
loop-x-preserved g c =
    let h = c.loop-x.invariant in
    let same = h.len in
    record {
      len = search rules;
      below = below_more g.met.D.Decoder.lawful c.requires.leaves (omega (arith, same, c.loop-x-test.true)) h.below _ c.sample_above-n.ensures _ (by_table _ _ _ _ c.in-Table.is (c.cluster_of-cluster.ensures.cluster _ c.entries-kept.ensures)) _ c.in-Ok.ensures.bytes (step_by_table _ _ _ _ c.in-Table.is c.cluster_of-cluster.ensures.cost)
          g.S.Sealed.from_int g.met.S.Sealed.to_int_from_int g.met.S.Sealed.wraps_after_i32 c.in-Ok.token _ _ _ _ c.in-Ok.ensures.gives c.unpack_signed_u32.ensures c.grad_clamped.ensures c.add-value.ensures (c.sample_again-nw.ensures _ c.sample_above-n.ensures);
    }

pub returns-in-Err : goal.returns-in-Err
returns-in-Err g c =
    let h = c.loop-x.invariant in
    let same = h.len in
    let gives = c.in-Err.ensures.gives in
    below_ends g.met.D.Decoder.lawful c.requires.leaves (omega (arith, same, c.loop-x-test.true)) h.below _ c.sample_above-n.ensures _ (by_table _ _ _ _ c.in-Table.is (c.cluster_of-cluster.ensures.cluster _ c.entries-kept.ensures)) _ c.in-Err.ensures.bytes (step_by_table _ _ _ _ c.in-Table.is c.cluster_of-cluster.ensures.cost) c.in-Err.error gives.0 gives.2

pub returns : goal.returns
returns g c =
    let h = c.loop-x.invariant in
    let end = c.loop-x.auto.x-end in
    let same = h.len in
    let all : c.loop-x.x ≡ length (map g.S.Sealed.to_int c.loop-x.row) = let m = length-map c.loop-x.row g.S.Sealed.to_int in omega (arith, m, end, same, c.loop-x-test.false) in
    rw all at h.below.reads
