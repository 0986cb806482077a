use Rattle.std.proofs.Common.{◌≡◌, ◌∙◌, ℕ, sym, ap, subst, FitsSigned, arith}
use Rattle.jxlm_encode_transform.specs.Inner.Lines.{number_in}
use Rattle.jxlm_encode_transform.proofs.Numbers.{below_next, number_read, put_next}
use Rattle.jxlm_encode_transform.proofs.strips.single_line.Goals as goal

pub loop-j-preserved : goal.loop-j-preserved
loop-j-preserved g c =
    let f = g.S.Sealed.to_int in
    let line = c.args.line.now in
    let j : ℕ = c.loop-j.j in
    let len = c.requires in
    let e0 : number_in f line j ≡ f c.index-line-j.result = number_read f line j c.index-line-j.result (omega arith) c.index-line-j.is in
    let e : number_in f line j ≡ f c.known.result = e0 ∙ sym (ap f c.known.ensures.same) in
    record {
      same = put_next f c.loop-j.averages j c.known.result (number_in f line) (omega arith) (sym e) c.loop-j.invariant.same;
      samples = below_next (λ i. FitsSigned g.S.Sealed.width (number_in f line i)) j c.loop-j.invariant.samples (subst (FitsSigned g.S.Sealed.width) (sym e0) c.known.ensures.fits);
    }
