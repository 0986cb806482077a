use Rattle.std.proofs.lemmas.List.Elements.{Contains-get_or}
use Rattle.std.proofs.lemmas.Result.{err_from_is_err_and}
use Rattle.jxlm_bits.specs.Bits.{position_of}
use Rattle.jxlm_bits.proofs.TokenFields.{token_ok, token_err}
use Rattle.jxl_patches.proofs.token.token.Goals as goal

pub returns-in_err-read_varint-clause-gives : goal.returns-in_err-read_varint-clause-gives
returns-in_err-read_varint-clause-gives g c =
    let p = err_from_is_err_and c.from_residual.result c.from_residual.ensures.1 in
    rw (p.1, p.2) (token_err _ c.in_err-read_varint.field-0.0 (position_of c.read_varint.new.bits) c.in_err-read_varint.ensures.gives.0)

pub returns-clause-gives : goal.returns-clause-gives
returns-clause-gives g c = token_ok _ _ _ _ c.in_ok-read_varint.ensures.gives

pub returns-clause-clusters : goal.returns-clause-clusters
returns-clause-clusters g c =
    let within = Contains-get_or (g.D.Decoder.meaning.cluster_map c.args.decoder.now) c.args.context 0 c.requires in
    let keeps = g.met.D.Decoder.lawful.read_keeps _ _ _ _ _ _ within c.in_ok-read_varint.ensures.gives in
    keeps.clusters
