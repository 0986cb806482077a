use Rattle.std.proofs.Common.{◌≡◌, ◌+◌, ◌<◌, arith, length, refl, rules}
use Rattle.jxlm_samples.proofs.GradientCells.{gradient_sample, left_next}
use Rattle.jxlm_samples.proofs.Stretches.{cells_more}
use Rattle.jxlm_samples.proofs.one_gradient.gradient_samples.Goals as goal

pub loop-k-init : goal.loop-k-init
loop-k-init g c =
    let here : c.args.from ≡ c.args.from + 0 = omega arith in
    record { len = refl; made = λ leaf plain. record { before = refl; cells = λ k l. absurd (omega arith) }; left = rw here at c.neighbours-w.ensures }

pub loop-k-preserved : goal.loop-k-preserved
loop-k-preserved g c =
    let h = c.loop-k.invariant in
    let same = h.len in
    let inside : c.args.from + c.loop-k.k < length c.loop-k.row = omega (arith, same, c.loop-k-test.true, c.requires.inside) in
    let next : c.args.from + c.loop-k.k + 1 ≡ c.args.from + (c.loop-k.k + 1) = omega arith in
    record {
      len = search rules;
      made = λ leaf plain.
          cells_more _ _ _ _ _ _ _ _ inside (h.made leaf plain)
          (gradient_sample h.left inside _ c.sample_above-n.ensures g.S.Sealed.width g.S.Sealed.from_int g.met.S.Sealed.to_int_from_int g.met.S.Sealed.wraps_after_i32 leaf plain
          _ _ _ _ c.unpack_signed_u32.ensures c.grad_clamped.ensures c.add-value.ensures);
      left = rw next at (left_next h.left inside _ _ (c.sample_again-nw.ensures _ c.sample_above-n.ensures));
    }

pub returns : goal.returns
returns g c = λ leaf plain.
    let end = c.loop-k.auto.k-end in
    let all : c.loop-k.k ≡ c.args.count = omega (arith, end, c.loop-k-test.false) in
    rw all at (c.loop-k.invariant.made leaf plain)
