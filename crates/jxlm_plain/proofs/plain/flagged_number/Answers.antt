use Rattle.jxlm_bits.specs.Bits.{bytes_of, position_of}
use Rattle.jxlm_plain.proofs.PlainReads.{flagged_end, flagged_run, flagged_token}
use Rattle.jxlm_plain.proofs.plain.flagged_number.Goals as goal

pub returns-in-Err-clause-gives : goal.returns-in-Err-clause-gives
returns-in-Err-clause-gives c = flagged_end (bytes_of c.args.bits.now) c.args.width (position_of c.args.bits.now) c.in-Err.ensures.err.0

pub returns-then-either-clause-gives : goal.returns-then-either-clause-gives
returns-then-either-clause-gives c = (flagged_run (bytes_of c.args.bits.now) c.args.width (position_of c.args.bits.now) c.in-Ok.either.1 (position_of c.read_either.new.self) c.in-Ok.either.0 c.if-either.true c.in-Ok.ensures.ok).0

pub returns-else-either-clause-gives : goal.returns-else-either-clause-gives
returns-else-either-clause-gives c = flagged_token (bytes_of c.args.bits.now) c.args.width (position_of c.args.bits.now) c.in-Ok.either.1 (position_of c.read_either.new.self) c.in-Ok.either.0 c.if-either.false c.in-Ok.ensures.ok
