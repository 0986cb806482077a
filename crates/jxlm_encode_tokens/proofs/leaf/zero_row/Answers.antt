use Rattle.std.proofs.Common.{map, pos, get_or, arith, sym, subst}
use Rattle.jxlm_encode_tokens.specs.Inner.Forms.{IsLeafToken}
use Rattle.jxlm_encode_tokens.proofs.Lists.{mapped_at, written}
use Rattle.jxlm_encode_tokens.proofs.leaf.zero_row.Goals as goal

pub loop-x-preserved : goal.loop-x-preserved
loop-x-preserved g c =
    let to_int = g.S.Sealed.to_int in
    let w = g.S.Sealed.width in
    let row = map to_int c.args.row.now in
    let x = c.loop-x.x in
    let same = c.loop-x.auto.out in
    let form = g.T.TokenForm.form in
    let token = c.kept_token.result in
    let here = subst (λ z. IsLeafToken form w c.args.leaf (pos 0) z token)
    (sym (mapped_at to_int c.args.row.now x c.index-row-x.result (pos 0) c.index-row-x.is c.loop-x-test.true)) c.kept_token.ensures in
    written (λ k t. IsLeafToken form w c.args.leaf (pos 0) (get_or row k (pos 0)) t) c.loop-x.out x token (omega (arith, same, c.requires.long, c.loop-x-test.true)) c.loop-x.invariant here
