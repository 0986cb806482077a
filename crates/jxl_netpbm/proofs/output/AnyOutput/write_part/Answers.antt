use Rattle.std.proofs.Common.{arith}
use Rattle.std.proofs.KnownBytes.{Keeps-trans}
use Rattle.jxl_netpbm.proofs.Writing.{none_kept}
use Rattle.jxl_netpbm.proofs.output.AnyOutput.write_part.Goals as goal

pub returns-then-not-is_empty-clause-bytes : goal.returns-then-not-is_empty-clause-bytes
returns-then-not-is_empty-clause-bytes g c = none_kept _ _ _ c.args.bytes.now c.in-Ok.count (omega arith) c.loop.invariant c.in-Ok.ensures.bytes

pub returns-then-ne-clause-bytes : goal.returns-then-ne-clause-bytes
returns-then-ne-clause-bytes g c = Keeps-trans _ _ _ c.loop.invariant c.in-Err.ensures.bytes
