use Rattle.std.proofs.Common.{ap, refl}
use Rattle.std.proofs.lemmas.Result.{err_from_is_err_and}
use Rattle.jxlm_bits.specs.Bits.{bytes_of, position_of}
use Rattle.jxlm_transform.specs.Channels.{infos, regions}
use Rattle.jxlm_nested.proofs.NestedFills.{decoded_err, decoded_ok, nested_lies}
use Rattle.jxlm_nested.proofs.nested.NestedPart.decode_samples.Goals as goal

pub decode-requires-clause-lies : goal.decode-requires-clause-lies
decode-requires-clause-lies g c κs within = nested_lies c.args.self.now c.args.store.now _ c.requires c.deref.ensures.value refl

pub returns-in_err-decode-clause-gives : goal.returns-in_err-decode-clause-gives
returns-in_err-decode-clause-gives g c =
    let r = err_from_is_err_and c.from_residual.result c.from_residual.ensures.1 in
    rw (r.1, r.2)
    (decoded_err g.D.Decoder.meaning g.S.Sealed.width g.S.Sealed.to_int (bytes_of c.args.bits.now) c.args.stream.index (position_of c.args.bits.now) c.args.self.now c.args.stream.allow_partial (position_of c.decode.new.bits) c.args.steps.now c.decode.new.steps
    (infos c.deref.result.now) (regions c.deref.result.now) (ap infos c.deref.ensures.value) (ap regions c.deref.ensures.value) c.args.store.now c.decode.new.store c.has_samples-partial.result c.decode.new.partial
    c.has_samples-partial.ensures c.in_err-decode.ensures.keeps c.in_err-decode.field-0.0 c.in_err-decode.ensures.answers)

pub returns-clause-gives : goal.returns-clause-gives
returns-clause-gives g c =
    decoded_ok g.D.Decoder.meaning g.S.Sealed.width g.S.Sealed.to_int (bytes_of c.args.bits.now) c.args.stream.index (position_of c.args.bits.now) c.args.self.now c.args.stream.allow_partial (position_of c.decode.new.bits) c.args.steps.now c.decode.new.steps
    (infos c.deref.result.now) (regions c.deref.result.now) (ap infos c.deref.ensures.value) (ap regions c.deref.ensures.value) c.args.store.now c.decode.new.store c.has_samples-partial.result c.decode.new.partial
    c.has_samples-partial.ensures c.in_ok-decode.ensures.keeps c.in_ok-decode.ensures.answers
