use Rattle.std.proofs.Common.{◌∙◌, ℕ, ◌-ℤ◌, sym, arith}
use Rattle.std.specs.Int.{int_wrap}
use Rattle.jxlm_lanes.specs.Squeeze.{difference, tendency}
use Rattle.jxlm_encode_transform.specs.Inner.Lines.{number_in}
use Rattle.jxlm_encode_transform.proofs.Numbers.{number_read, put_next, residual_same}
use Rattle.jxlm_encode_transform.proofs.strips.residual_lines.Goals as goal

pub loop-j-preserved : goal.loop-j-preserved
loop-j-preserved g c =
    let f = g.S.Sealed.to_int in
    let w = g.S.Sealed.width in
    let j : ℕ = c.loop-j.j in
    let r = c.requires in
    let before_len = r.before_len in
    let averages_len = r.averages_len in
    let next_len = r.next_len in
    let first_len = r.first_len in
    let second_len = r.second_len in
    put_next f c.loop-j.residuals j c.residual.result
    (λ i. int_wrap w (difference w (number_in f c.args.first.now i) (number_in f c.args.second.now i) -ℤ tendency (number_in f c.args.before.now i) (number_in f c.args.averages.now i) (number_in f c.args.next.now i)))
    (omega arith)
    (c.residual.ensures ∙ residual_same w _ _ _ _ _ _ _ _ _ _
    (sym (number_read f c.args.before.now j c.index-before-j.result (omega arith) c.index-before-j.is))
    (sym (number_read f c.args.averages.now j c.index-averages-j.result (omega arith) c.index-averages-j.is))
    (sym (number_read f c.args.next.now j c.index-next-j.result (omega arith) c.index-next-j.is))
    (sym (number_read f c.args.first.now j c.index-first-j.result (omega arith) c.index-first-j.is))
    (sym (number_read f c.args.second.now j c.index-second-j.result (omega arith) c.index-second-j.is)))
    c.loop-j.invariant
