use Rattle.std.proofs.Common.{◌-◌, arith}
use Rattle.jxlm_bits.specs.Bits.{bytes_of, position_of}
use Rattle.jxlm_plain.proofs.GammaBits.{all_read, none_read, fewer_left}
use Rattle.jxlm_plain.proofs.gamma.last_bits.Goals as goal

pub loop-missing-preserved : goal.loop-missing-preserved
loop-missing-preserved c =
    let few = fewer_left (bytes_of c.args.bits.now) (position_of c.args.bits.now) (32 - c.loop-missing.missing) c.in_default.field-0 c.in_default.ensures.err.0 c.in_default.ensures.gives in
    omega (arith, few)

pub returns-in-Ok : goal.returns-in-Ok
returns-in-Ok c = all_read (bytes_of c.args.bits.now) (position_of c.args.bits.now) (32 - c.loop-missing.missing) c.in-Ok.next _ (omega arith) (omega arith) c.in-Ok.ensures.gives

pub returns : goal.returns
returns c = none_read (bytes_of c.args.bits.now) (position_of c.args.bits.now) (omega arith)
