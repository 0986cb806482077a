use Rattle.std.proofs.Common.{ℕ, ◌∙◌, ◌+◌, ◌*◌, sym, arith}
use Rattle.jxlm_encode_transform.proofs.Numbers.{number_read, residual_same}
use Rattle.jxlm_encode_transform.proofs.lines.residual_at.Goals as goal

pub returns : goal.returns
returns g c =
    let f = g.S.Sealed.to_int in
    let line = c.args.line.now in
    let k : ℕ = c.args.k in
    let pair = c.requires.pair in
    c.residual.ensures
    ∙ residual_same g.S.Sealed.width _ _ _ _ _ _ _ _ _ _ c.sample_before-before.ensures c.known_average-own.ensures c.average_after-next.ensures
    (sym (number_read f line (2 * k) c.index-line-k.result (omega (arith, pair)) c.index-line-k.is))
    (sym (number_read f line (2 * k + 1) c.index-line-k-2.result (omega (arith, pair)) c.index-line-k-2.is))
