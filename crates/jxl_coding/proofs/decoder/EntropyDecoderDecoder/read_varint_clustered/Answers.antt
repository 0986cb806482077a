use Rattle.std.proofs.Common.{◌∙◌, refl}
use Rattle.jxlm_bits.specs.Bits.{bytes_of, position_of}
use Rattle.jxl_coding.proofs.AnyMultiplier.{any_multiplier}
use Rattle.jxl_coding.proofs.decoder.EntropyDecoderDecoder.read_varint_clustered.Goals as goal

pub returns-in-Ok-clause-gives : goal.returns-in-Ok-clause-gives
returns-in-Ok-clause-gives c = λ m.
    (any_multiplier c.args.self.now (bytes_of c.args.bits.now) (position_of c.args.bits.now) c.args.cluster m 0 c.requires.plain ∙ c.in-Ok.ensures.gives, refl)

pub returns-in-Err-clause-gives : goal.returns-in-Err-clause-gives
returns-in-Err-clause-gives c = λ m.
    (any_multiplier c.args.self.now (bytes_of c.args.bits.now) (position_of c.args.bits.now) c.args.cluster m 0 c.requires.plain ∙ c.in-Err.ensures.gives.0, c.in-Err.ensures.gives.1, c.in-Err.ensures.gives.2)
