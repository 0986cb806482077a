use Rattle.jxl_patches.proofs.Holding.{channel_at}
use Rattle.jxl_patches.proofs.slots.SavedFrames.channel.Goals as goal

pub returns : goal.returns
returns c =
    channel_at c.args.self.now c.args.slot c.args.channel c.index-self-slot.result c.in-Some.frame c.index.result.now c.requires.slot c.in-Some.is c.requires.channel c.index.ensures
