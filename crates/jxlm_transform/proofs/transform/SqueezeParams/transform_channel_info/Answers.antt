use Rattle.jxlm_transform.specs.Channels.{regions}
use Rattle.jxlm_transform.proofs.Ends.{halves_end}
use Rattle.jxlm_transform.proofs.PlacedLists.{ends_of, squeezable}
use Rattle.jxlm_transform.proofs.transform.SqueezeParams.transform_channel_info.Goals as goal

pub halve-requires-clause-each : goal.halve-requires-clause-each
halve-requires-clause-each c = squeezable c.args.self.now c.args.channels.now c.requires.suits

pub halve-requires-clause-ends : goal.halve-requires-clause-ends
halve-requires-clause-ends c = ends_of c.args.self.now c.args.channels.now.placed.items c.args.channels.now.ends

pub invariant_of-channels-then-self-channels : goal.invariant_of-channels-then-self-channels
invariant_of-channels-then-self-channels c = record { ends = halves_end c.args.self.now (regions c.args.channels.now.placed.items) (regions c.halve.new.placed.items) c.args.channels.now.ends c.in_ok-halve.ensures.regions }

pub invariant_of-channels-else-self-channels : goal.invariant_of-channels-else-self-channels
invariant_of-channels-else-self-channels c = record { ends = halves_end c.args.self.now (regions c.args.channels.now.placed.items) (regions c.halve.new.placed.items) c.args.channels.now.ends c.in_ok-halve.ensures.regions }
