use Rattle.std.proofs.Common.{◌≡◌, take}
use Rattle.jxlm_chain.specs.Undoings.{undos_of}
use Rattle.jxlm_chain.proofs.undo.clone_all.Given as goal

abbrev pub invariant-loop-undoing : goal.invariant-loop-undoing
invariant-loop-undoing l = undos_of l.clones.items ≡ undos_of (take l.undoing-index l.undoings)
