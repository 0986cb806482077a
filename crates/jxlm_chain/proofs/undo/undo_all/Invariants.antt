use Rattle.std.proofs.Common.{◌-◌, length}
use Rattle.jxlm_chain.specs.Undoings.{undos_of}
use Rattle.jxlm_chain.proofs.UndoLoop.{Undone}
use Rattle.jxlm_chain.proofs.undo.undo_all.Given as goal

abbrev pub invariant-loop-i : goal.invariant-loop-i
invariant-loop-i g l = Undone g.S.Sealed.to_int g.S.Sealed.width l.bit_depth (undos_of l.undoings) (length l.undoings - l.i) l.initial.store l.store l.initial.scratch l.scratch
