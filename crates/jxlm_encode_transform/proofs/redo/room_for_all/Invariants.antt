use Rattle.std.proofs.Common.{ℕ, ◌<◌, get_or}
use Rattle.jxlm_chain.specs.Undo.{Undo}
use Rattle.jxlm_chain.specs.Undoings.{undos_of}
use Rattle.jxlm_encode_transform.specs.Inner.Room.{HasRoom}
use Rattle.jxlm_encode_transform.proofs.redo.room_for_all.Given as goal

abbrev pub invariant-loop-undoing : goal.invariant-loop-undoing
invariant-loop-undoing l = (k : ℕ) (d : Undo) → k < l.undoing-index → HasRoom l.most (get_or (undos_of l.undoings) k d)
