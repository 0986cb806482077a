use Rattle.std.proofs.Common.{◌≡◌, ◌++◌, map, take}
use Rattle.jxlm_transform.specs.Channels.{regions}
use Rattle.jxlm_chain.specs.Undo.{UndoSqueeze}
use Rattle.jxlm_chain.specs.Undoings.{undos_of}
use Rattle.jxlm_chain.proofs.undo.undo_halves.Given as goal

abbrev pub invariant-loop-channel : goal.invariant-loop-channel
invariant-loop-channel l = undos_of l.undoings.items ≡ undos_of l.initial.undoings.items ++ map (UndoSqueeze l.horizontal) (regions (take l.channel-index l.channels))
