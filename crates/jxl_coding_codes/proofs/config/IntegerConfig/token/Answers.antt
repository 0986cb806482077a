use Rattle.std.proofs.Common.{refl, arith}
use Rattle.jxlm_bits.specs.Bits.{bytes_of, position_of}
use Rattle.jxl_coding_codes.proofs.IntegerToken.{token_given}
use Rattle.jxl_coding_codes.proofs.config.IntegerConfig.token.Goals as goal

pub returns-clause-gives : goal.returns-clause-gives
returns-clause-gives c =
    token_given c.args.self.now c.args.symbol c.in_ok-rest.rest (position_of c.number.new.bits) (bytes_of c.args.bits.now) (position_of c.args.bits.now)
    c.power-split.result c.power.result _ c.power-high.result c.power-low.result c.power-2.result
    c.power-split.ensures c.power.ensures c.power-high.ensures c.power-low.ensures refl c.power-2.ensures (omega arith) c.in_ok-rest.ensures.gives
