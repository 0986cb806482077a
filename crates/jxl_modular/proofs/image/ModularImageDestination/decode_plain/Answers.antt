use Rattle.std.proofs.lemmas.Result.{err_from_is_err_and}
use Rattle.jxlm_bits.specs.Bits.{position_of}
use Rattle.jxl_modular.proofs.TurnLaws.{plain_err, plain_ok}
use Rattle.jxl_modular.proofs.image.ModularImageDestination.decode_plain.Goals as goal

pub returns-clause-gives : goal.returns-clause-gives
returns-clause-gives g c =
    plain_ok g.D.Decoder.meaning g.S.Sealed.width g.S.Sealed.to_int c.args.self.now c.args.passes.now c.args.allow_partial c.args.section.now (position_of c.decode_part.new.bits) c.decode_part.new.self
    c.part_has_samples-partial.result c.decode_part.new.partial c.args.steps.now c.decode_part.new.steps c.part_has_samples-partial.ensures c.in_ok-decode_part.ensures.same.outside c.in_ok-decode_part.ensures.gives

pub returns-in_err-decode_part-clause-gives : goal.returns-in_err-decode_part-clause-gives
returns-in_err-decode_part-clause-gives g c =
    let p = err_from_is_err_and c.from_residual.result c.from_residual.ensures.1 in
    rw (p.1, p.2)
    (plain_err g.D.Decoder.meaning g.S.Sealed.width g.S.Sealed.to_int c.args.self.now c.args.passes.now c.args.allow_partial c.args.section.now (position_of c.decode_part.new.bits) c.decode_part.new.self
    c.part_has_samples-partial.result c.decode_part.new.partial c.args.steps.now c.decode_part.new.steps c.part_has_samples-partial.ensures c.in_err-decode_part.ensures.same.outside
    c.in_err-decode_part.field-0.0 c.in_err-decode_part.ensures.gives)
