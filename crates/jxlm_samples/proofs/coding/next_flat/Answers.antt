use Rattle.std.proofs.Common.{arith}
use Rattle.jxlm_samples.proofs.Starting.{flat_next}
use Rattle.jxlm_samples.proofs.coding.next_flat.Goals as goal

pub returns-in-Some-clause-ok : goal.returns-in-Some-clause-ok
returns-in-Some-clause-ok g c =
    flat_next c.args.config.now.tree c.args.stream_index c.args.channel c.args.before.now c.index-before-channel.result c.in-Some.next c.requires.before (omega (arith, c.if-channel-gt0.true))
    (rw c.in-Some.is at c.in_ok-next.ensures.next)
