use Rattle.jxlm_chain.specs.Undoings.{undos_of}
use Rattle.jxlm_encode_transform.proofs.Forward.{Redone}
use Rattle.jxlm_encode_transform.proofs.redo.redo_each.Given as goal

abbrev pub invariant-loop-undoing : goal.invariant-loop-undoing
invariant-loop-undoing g l = Redone g.S.Sealed.to_int g.S.Sealed.width (undos_of l.undoings) l.undoing-index l.fn.store l.store
