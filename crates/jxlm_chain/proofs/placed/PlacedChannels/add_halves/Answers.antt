use Rattle.std.proofs.Common.{sym}
use Rattle.std.proofs.lemmas.List.{append-nil}
use Rattle.jxlm_transform.specs.ChannelSteps.{SqueezeStep}
use Rattle.jxlm_chain.specs.Placed.{sides_in}
use Rattle.jxlm_chain.proofs.PlacedSteps.{goes_one}
use Rattle.jxlm_chain.proofs.placed.PlacedChannels.add_halves.Goals as goal

pub returns-clause-goes : goal.returns-clause-goes
returns-clause-goes c =
    goes_one (SqueezeStep c.args.step.now) c.args.self.now _ c.requires c.in_ok-transform_channel_info.ensures.ok c.in_ok-transform_channel_info.ensures.meta c.in_ok-undo_squeeze.ensures (sym (append-nil (sides_in c.args.self.now.tables.items)))
