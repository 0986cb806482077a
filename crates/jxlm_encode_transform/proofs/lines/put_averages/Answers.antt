use Rattle.std.proofs.Common.{ℕ, ◌<◌, length, arith, FitsSigned}
use Rattle.jxlm_lanes.specs.Squeeze.{average_at}
use Rattle.jxlm_encode_transform.specs.Inner.Lines.{number_in}
use Rattle.jxlm_encode_transform.proofs.Numbers.{put_next, pair_next}
use Rattle.jxlm_encode_transform.proofs.lines.put_averages.Goals as goal

pub loop-k-preserved : goal.loop-k-preserved
loop-k-preserved g c =
    let f = g.S.Sealed.to_int in
    let line = c.args.line.now in
    let k : ℕ = c.loop-k.k in
    record {
      averages = put_next f c.loop-k.averages k c.average_at.result (average_at g.S.Sealed.width (length line) (number_in f line)) (omega arith) c.average_at.ensures.value c.loop-k.invariant.averages;
      samples = pair_next (λ i. i < length line → FitsSigned g.S.Sealed.width (number_in f line i)) k c.loop-k.invariant.samples (λ _. c.average_at.ensures.first_fits) c.average_at.ensures.second_fits;
    }
