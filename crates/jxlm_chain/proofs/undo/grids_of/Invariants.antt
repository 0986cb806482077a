use Rattle.std.proofs.Common.{◌≡◌, map, take}
use Rattle.jxlm_transform.specs.Channels.{regions}
use Rattle.jxlm_chain.specs.Grids.{leader_of}
use Rattle.jxlm_chain.proofs.undo.grids_of.Given as goal

abbrev pub invariant-loop-channel : goal.invariant-loop-channel
invariant-loop-channel l = map leader_of l.grids.items ≡ regions (take l.channel-index l.channels)
