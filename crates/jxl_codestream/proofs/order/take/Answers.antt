use Rattle.std.proofs.Common.{◌≡◌, ℕ, ◌+◌, ◌-◌, ◌*◌, ◌/◌, ◌^◌, length, rules, ap, ◌∙◌, arith}
use Rattle.std.specs.Prelude.{slice_index}
use Rattle.std.proofs.lemmas.List.{length-set}
use Rattle.jxl_codestream.proofs.Counted.{take_step, halved}
use Rattle.jxl_codestream.proofs.order.take.Goals as goal

pub loop-preserved : goal.loop-preserved
loop-preserved c =
    let sub : c.saturating_sub.result ≡ slice_index c.loop.counts (c.loop.first + c.loop.place) - 1 = search rules in
    let long : length c.loop.counts ≡ 2 * 2 ^ c.args.levels = c.loop.invariant.nodes ∙ c.requires.nodes in
    record {
      nodes = length-set c.loop.counts (c.loop.first + c.loop.place) c.saturating_sub.result ∙ c.loop.invariant.nodes;
      first = ap (λ (n : ℕ). n / 2) c.loop.invariant.first ∙ halved (2 ^ c.args.levels) c.loop.counter;
      place = ap (λ (n : ℕ). n / 2) c.loop.invariant.place ∙ halved c.args.number c.loop.counter;
      partly = λ taken counted free.
          take_step c.loop.counts taken c.args.levels c.args.number c.loop.counter c.loop.first c.loop.place c.saturating_sub.result c.loop.invariant.first c.loop.invariant.place sub
          (omega (arith, c.loop-test.true)) c.requires.number long free (c.loop.invariant.partly taken counted free);
    }
