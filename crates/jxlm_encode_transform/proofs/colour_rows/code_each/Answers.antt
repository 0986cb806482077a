use Rattle.std.proofs.Common.{◌≡◌, ◌∙◌, ℕ, sym, ap, subst, FitsSigned, arith}
use Rattle.jxlm_lanes.specs.Colour.{coded_by}
use Rattle.jxlm_lanes.proofs.ColourLaws.{triple_same}
use Rattle.jxlm_encode_transform.specs.Inner.Lines.{number_in}
use Rattle.jxlm_encode_transform.proofs.Numbers.{below_next, number_read}
use Rattle.jxlm_encode_transform.proofs.CodedRows.{coded_next}
use Rattle.jxlm_encode_transform.proofs.colour_rows.code_each.Goals as goal

pub loop-i-preserved : goal.loop-i-preserved
loop-i-preserved g c =
    let f = g.S.Sealed.to_int in
    let w = g.S.Sealed.width in
    let x = c.args.x.now in
    let y = c.args.y.now in
    let z = c.args.z.now in
    let i : ℕ = c.loop-i.i in
    let len = c.requires.lengths in
    let second = len.second in
    let third = len.third in
    let first_coded = len.first_coded in
    let second_coded = len.second_coded in
    let third_coded = len.third_coded in
    let p0 : number_in f x i ≡ f c.index-x-i.result = number_read f x i c.index-x-i.result (omega arith) c.index-x-i.is in
    let p : number_in f x i ≡ f c.known.result = p0 ∙ sym (ap f c.known.ensures.same) in
    let q0 : number_in f y i ≡ f c.index-y-i.result = number_read f y i c.index-y-i.result (omega arith) c.index-y-i.is in
    let q : number_in f y i ≡ f c.known-in-loop-i.result = q0 ∙ sym (ap f c.known-in-loop-i.ensures.same) in
    let r0 : number_in f z i ≡ f c.index-z-i.result = number_read f z i c.index-z-i.result (omega arith) c.index-z-i.is in
    let r : number_in f z i ≡ f c.known-in-loop-i-2.result = r0 ∙ sym (ap f c.known-in-loop-i-2.ensures.same) in
    let before = c.loop-i.invariant in
    record {
      coded = coded_next f (coded_by w c.args.ty) x y z c.loop-i.a c.loop-i.b c.loop-i.c i c.coded_by-first.result.0 c.coded_by-first.result.1 c.coded_by-first.result.2
          (omega arith) (omega arith) (omega arith) (c.coded_by-first.ensures ∙ ap (coded_by w c.args.ty) (sym (triple_same _ _ _ _ _ _ p q r))) before.coded;
      samples = record {
        first = below_next (λ k. FitsSigned w (number_in f x k)) i before.samples.first (subst (FitsSigned w) (sym p0) c.known.ensures.fits);
        second = below_next (λ k. FitsSigned w (number_in f y k)) i before.samples.second (subst (FitsSigned w) (sym q0) c.known-in-loop-i.ensures.fits);
        third = below_next (λ k. FitsSigned w (number_in f z k)) i before.samples.third (subst (FitsSigned w) (sym r0) c.known-in-loop-i-2.ensures.fits);
      };
    }
