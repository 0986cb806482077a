use Rattle.std.proofs.Common.{◌∙◌, sym, arith}
use Rattle.jxlm_encode_transform.proofs.Numbers.{number_read}
use Rattle.jxlm_encode_transform.proofs.lines.known_average.Goals as goal

pub returns : goal.returns
returns g c =
    let pair = c.requires.pair in
    let len = c.requires.len in
    sym (number_read g.S.Sealed.to_int c.args.averages.now c.args.k c.index-averages-k.result (omega (arith, pair, len)) c.index-averages-k.is)
    ∙ c.requires.averages c.args.k c.requires.pair
