use Rattle.std.proofs.Common.{◌≡◌, ◌∙◌, ℕ, ◌+◌, ◌*◌, ◌<◌, ◌≤◌, ◌-◌, drop, length, FitsSigned, arith}
use Rattle.jxlm_lanes.specs.Squeeze.{averages}
use Rattle.jxlm_base.proofs.RegionRows.{length-part}
use Rattle.jxlm_encode_transform.proofs.Numbers.{pair_next}
use Rattle.jxlm_encode_transform.specs.Inner.Squeezed.{average_of, number_of}
use Rattle.jxlm_encode_transform.proofs.LineSteps.{lines_next, no_lines}
use Rattle.jxlm_encode_transform.proofs.StripSteps.{line_within}
use Rattle.jxlm_encode_transform.proofs.squeeze.put_averages.Goals as goal

pub loop-k-init : goal.loop-k-init
loop-k-init g c = record {
  averages = no_lines g.S.Sealed.to_int c.args.averages.now c.args.strip.width (average_of g.S.Sealed.to_int g.S.Sealed.width c.args.strip c.args.store.now);
  samples = λ x p y q. absurd (omega (arith, q));
}

pub loop-k-preserved : goal.loop-k-preserved
loop-k-preserved g c =
    let f = g.S.Sealed.to_int in
    let w = g.S.Sealed.width in
    let strip = c.args.strip in
    let store = c.args.store.now in
    let n : ℕ = strip.width in
    let k : ℕ = c.loop-k.k in
    let xs = c.loop-k.averages in
    let room : length xs ≡ averages strip.height * n = c.loop-k.auto.averages ∙ c.requires.room in
    let fits : k * n + n ≤ length xs = line_within k (averages strip.height) n (length xs) (omega arith) room in
    record {
      averages = lines_next f xs c.average_line.new.line (drop (k * n + n - k * n) (drop (k * n) xs)) n k (average_of f w strip store) (c.average_line.ensures.len ∙ length-part xs (k * n) n fits) fits c.loop-k.invariant.averages c.average_line.ensures.averages;
      samples = λ x p. pair_next (λ y. y < strip.height → FitsSigned w (number_of f strip store x y)) k (c.loop-k.invariant.samples x p) (λ _. c.average_line.ensures.first_samples x p) (c.average_line.ensures.second_samples x p);
    }
