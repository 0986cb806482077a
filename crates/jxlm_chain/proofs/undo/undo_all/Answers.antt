use Rattle.std.proofs.Common.{◌≡◌, ℕ, ◌+◌, ◌-◌, length, sym, subst, arith}
use Rattle.std.proofs.lemmas.List.{length-map}
use Rattle.jxlm_chain.specs.Scratch.{HasRoomToUndo}
use Rattle.jxlm_chain.specs.Steps.{CanUndo}
use Rattle.jxlm_chain.specs.Undo.{Undoes}
use Rattle.jxlm_chain.specs.Undoings.{undo_of_code, undos_of}
use Rattle.jxlm_chain.proofs.UndoLoop.{Undone, holds_at, undo_at, undone_next}
use Rattle.jxlm_chain.proofs.undo.undo_all.Goals as goal

pub run-requires-clause-can : goal.run-requires-clause-can
run-requires-clause-can g c κs within =
    let us = c.args.undoings.now in
    holds_at (CanUndo c.loop-i.store) us (length us - 1 - c.loop-i.i) c.index-undoings-last.result (omega arith) c.index-undoings-last.is c.loop-i.invariant.can

pub run-requires-clause-room : goal.run-requires-clause-room
run-requires-clause-room g c κs within =
    let us = c.args.undoings.now in
    holds_at (HasRoomToUndo c.loop-i.scratch) us (length us - 1 - c.loop-i.i) c.index-undoings-last.result (omega arith) c.index-undoings-last.is c.loop-i.invariant.room

pub loop-i-preserved : goal.loop-i-preserved
loop-i-preserved g c =
    let to_int = g.S.Sealed.to_int in
    let w = g.S.Sealed.width in
    let depth = c.args.bit_depth in
    let us = c.args.undoings.now in
    let n : ℕ = length us in
    let i : ℕ = c.loop-i.i in
    let j : ℕ = n - 1 - i in
    let x = c.index-undoings-last.result in
    let count = length-map us undo_of_code in
    let now = c.loop-i.store in
    let new = c.run.new.store in
    let next : n - (i + 1) ≡ j = omega arith in
    let one = subst (λ u. Undoes to_int w depth u now new) (undo_at us j x c.index-undoings-last.is) c.run.ensures.undoes in
    subst (λ (k : ℕ). Undone to_int w depth (undos_of us) k c.args.store.now new c.args.scratch.now c.run.new.scratch) (sym next)
    (undone_next to_int w depth (undos_of us) j (n - i) (undo_of_code x) c.args.store.now now new c.args.scratch.now c.loop-i.scratch c.run.new.scratch (omega (arith, count)) (omega arith)
    c.loop-i.invariant one c.run.ensures.room)
