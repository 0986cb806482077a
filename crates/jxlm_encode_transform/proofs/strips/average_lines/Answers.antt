use Rattle.std.proofs.Common.{◌≡◌, ◌∙◌, ℕ, sym, ap, subst, FitsSigned, arith}
use Rattle.jxlm_lanes.specs.Squeeze.{average}
use Rattle.jxlm_encode_transform.specs.Inner.Lines.{number_in}
use Rattle.jxlm_encode_transform.proofs.Numbers.{below_next, number_read, put_next}
use Rattle.jxlm_encode_transform.proofs.strips.average_lines.Goals as goal

pub loop-j-preserved : goal.loop-j-preserved
loop-j-preserved g c =
    let f = g.S.Sealed.to_int in
    let w = g.S.Sealed.width in
    let first = c.args.first.now in
    let second = c.args.second.now in
    let j : ℕ = c.loop-j.j in
    let second_len = c.requires.second_len in
    let len = c.requires.averages_len in
    let e0 : number_in f first j ≡ f c.index-first-j.result = number_read f first j c.index-first-j.result (omega arith) c.index-first-j.is in
    let e : number_in f first j ≡ f c.known.result = e0 ∙ sym (ap f c.known.ensures.same) in
    let d0 : number_in f second j ≡ f c.index-second-j.result = number_read f second j c.index-second-j.result (omega arith) c.index-second-j.is in
    let d : number_in f second j ≡ f c.known-in-loop-j.result = d0 ∙ sym (ap f c.known-in-loop-j.ensures.same) in
    record {
      averages = put_next f c.loop-j.averages j c.average.result (λ i. average w (number_in f first i) (number_in f second i)) (omega arith)
          (c.average.ensures ∙ sym (ap (λ z. average w z (f c.known-in-loop-j.result)) e) ∙ sym (ap (average w (number_in f first j)) d)) c.loop-j.invariant.averages;
      first_samples = below_next (λ i. FitsSigned w (number_in f first i)) j c.loop-j.invariant.first_samples (subst (FitsSigned w) (sym e0) c.known.ensures.fits);
      second_samples = below_next (λ i. FitsSigned w (number_in f second i)) j c.loop-j.invariant.second_samples (subst (FitsSigned w) (sym d0) c.known-in-loop-j.ensures.fits);
    }
