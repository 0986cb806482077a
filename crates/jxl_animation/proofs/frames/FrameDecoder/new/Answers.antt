use Rattle.std.proofs.Common.{refl}
use Rattle.jxl_animation.proofs.Decoders.{opened, opened_ready}
use Rattle.jxl_animation.proofs.frames.FrameDecoder.new.Goals as goal

pub returns-clause-ok : goal.returns-clause-ok
returns-clause-ok c =
    opened c.args.limits.now c.args.file.now _ c.bytes.result.now c.bytes.ensures c.in-Ok.ensures.ok c.in-Ok-read.ensures.ok refl c.none.ensures refl refl

pub returns-clause-ready : goal.returns-clause-ready
returns-clause-ready c = opened_ready _ c.bytes.result.now c.in-Ok-read.opening c.bytes.ensures refl refl refl c.none.ensures c.in-Ok-read.ensures.ready

pub returns-in-Err-read-clause-err : goal.returns-in-Err-read-clause-err
returns-in-Err-read-clause-err c = (c.bytes.result.now, rw c.bytes.ensures c.in-Ok.ensures.ok, c.in-Err-read.ensures.err)
