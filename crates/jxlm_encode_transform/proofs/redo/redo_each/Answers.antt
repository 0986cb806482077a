use Rattle.std.proofs.Common.{ℕ, length, subst, arith}
use Rattle.std.proofs.lemmas.List.{length-map}
use Rattle.jxlm_chain.specs.Steps.{CanUndo}
use Rattle.jxlm_chain.specs.Undo.{Undoes, UndoesAll}
use Rattle.jxlm_chain.specs.Undoings.{undo_of_code, undos_of}
use Rattle.jxlm_chain.proofs.UndoLoop.{holds_at, undo_at}
use Rattle.jxlm_encode_transform.specs.Inner.Room.{HasRoom}
use Rattle.jxlm_encode_transform.specs.Redo.{UndoesNoPalette}
use Rattle.jxlm_encode_transform.proofs.Forward.{redone_none, redone_next, take_whole}
use Rattle.jxlm_encode_transform.proofs.redo.redo_each.Goals as goal

pub loop-undoing-init : goal.loop-undoing-init
loop-undoing-init g c = redone_none g.S.Sealed.to_int g.S.Sealed.width (undos_of c.args.undoings.now) c.args.store.now c.requires.can c.requires.full

pub redo-requires-clause-can : goal.redo-requires-clause-can
redo-requires-clause-can g c κs within =
    holds_at (CanUndo c.loop-undoing.store) c.args.undoings.now c.loop-undoing.undoing-index c.undoing-item.result c.loop-undoing-test.true c.undoing-item.is c.loop-undoing.invariant.can

pub redo-requires-clause-no_palette : goal.redo-requires-clause-no_palette
redo-requires-clause-no_palette g c κs within =
    holds_at UndoesNoPalette c.args.undoings.now c.loop-undoing.undoing-index c.undoing-item.result c.loop-undoing-test.true c.undoing-item.is c.requires.no_palettes

pub redo-requires-clause-room : goal.redo-requires-clause-room
redo-requires-clause-room g c κs within =
    holds_at (HasRoom (length c.loop-undoing.scratch)) c.args.undoings.now c.loop-undoing.undoing-index c.undoing-item.result c.loop-undoing-test.true c.undoing-item.is
    (rw c.loop-undoing.auto.scratch c.requires.room)

pub loop-undoing-preserved : goal.loop-undoing-preserved
loop-undoing-preserved g c =
    let f = g.S.Sealed.to_int in
    let w = g.S.Sealed.width in
    let us = c.args.undoings.now in
    let i = c.loop-undoing.undoing-index in
    let x = c.undoing-item.result in
    let count = length-map us undo_of_code in
    let one = λ (depth : ℕ). subst (λ u. Undoes f w depth u c.redo.new.store c.loop-undoing.store) (undo_at us i x c.undoing-item.is) (c.redo.ensures.redone depth) in
    redone_next f w (undos_of us) i (undo_of_code x) c.args.store.now c.loop-undoing.store c.redo.new.store (omega (arith, count, c.loop-undoing-test.true)) c.loop-undoing.invariant one c.redo.ensures.shape

pub returns : goal.returns
returns g c =
    let us = c.args.undoings.now in
    let count = length-map us undo_of_code in
    let end = c.loop-undoing-test.false in
    record {
      redone = λ depth. subst (λ vs. UndoesAll g.S.Sealed.to_int g.S.Sealed.width depth vs c.loop-undoing.store c.args.store.now) (take_whole (undos_of us) c.loop-undoing.undoing-index (omega (arith, count, end))) (c.loop-undoing.invariant.done depth);
      shape = c.loop-undoing.invariant.shape;
    }
