use Rattle.jxlm_bits.specs.Bits.{bytes_of, position_of}
use Rattle.jxlm_plain.proofs.GammaBits.{all_is, fewer_left}
use Rattle.jxlm_plain.proofs.gamma.next_bits.Goals as goal

pub last_bits-requires : goal.last_bits-requires
last_bits-requires c = fewer_left (bytes_of c.args.bits.now) (position_of c.args.bits.now) 32 c.in-Err.field-0 c.in-Err.ensures.err.0 c.in-Err.ensures.gives

pub returns-in-Ok : goal.returns-in-Ok
returns-in-Ok c = all_is (bytes_of c.args.bits.now) (position_of c.args.bits.now) c.in-Ok.next _ c.in-Ok.ensures.gives
