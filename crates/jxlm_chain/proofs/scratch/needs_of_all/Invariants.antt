use Rattle.std.proofs.Common.{ℕ, ◌<◌, get_or}
use Rattle.jxlm_chain.specs.Inner.Needs.{AreNarrow, Covers}
use Rattle.jxlm_chain.specs.Undo.{Undo}
use Rattle.jxlm_chain.specs.Undoings.{undos_of}
use Rattle.jxlm_chain.proofs.scratch.needs_of_all.Given as goal

abbrev pub invariant-loop-undoing : goal.invariant-loop-undoing
invariant-loop-undoing l = record {
  covers : (k : ℕ) (d : Undo) → k < l.undoing-index → Covers l.needs (get_or (undos_of l.undoings) k d);
  narrow : AreNarrow l.needs;
}
