use Rattle.std.proofs.Common.{arith}
use Rattle.std.proofs.lemmas.List.{length-map}
use Rattle.jxlm_chain.specs.Undoings.{undo_of_code, undos_of}
use Rattle.jxlm_chain.proofs.UndoLoop.{undo_at}
use Rattle.jxlm_encode_transform.proofs.Forward.{room_next}
use Rattle.jxlm_encode_transform.proofs.redo.room_for_all.Goals as goal

pub loop-undoing-preserved : goal.loop-undoing-preserved
loop-undoing-preserved c =
    let us = c.args.undoings.now in
    let i = c.loop-undoing.undoing-index in
    let x = c.undoing-item.result in
    let n = length-map us undo_of_code in
    let larger = c.max-most.ensures in
    room_next (undos_of us) i c.loop-undoing.most c.in_ok-room_for.field-0 c.max-most.result (undo_of_code x) (omega (arith, larger)) (omega (arith, larger)) (omega (arith, n, c.loop-undoing-test.true)) (undo_at us i x c.undoing-item.is) c.loop-undoing.invariant c.in_ok-room_for.ensures
