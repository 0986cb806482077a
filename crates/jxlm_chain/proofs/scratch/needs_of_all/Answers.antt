use Rattle.std.proofs.Common.{arith, subst, sym}
use Rattle.std.proofs.lemmas.List.{length-map}
use Rattle.jxlm_chain.specs.Scratch.{IsNarrowUndo}
use Rattle.jxlm_chain.specs.Inner.Needs.{AreNarrow}
use Rattle.jxlm_chain.specs.Undoings.{undo_of_code, undos_of}
use Rattle.jxlm_chain.proofs.Rooms.{covers_more, narrow_larger}
use Rattle.jxlm_chain.proofs.UndoLoop.{holds_at, undo_at}
use Rattle.jxlm_chain.proofs.scratch.needs_of_all.Goals as goal

pub needs-requires : goal.needs-requires
needs-requires c = holds_at IsNarrowUndo c.args.undoings.now c.loop-undoing.undoing-index c.undoing-item.result c.loop-undoing-test.true c.undoing-item.is c.requires

pub loop-undoing-preserved : goal.loop-undoing-preserved
loop-undoing-preserved c =
    let us = c.args.undoings.now in
    let i = c.loop-undoing.undoing-index in
    let x = c.undoing-item.result in
    let n = length-map us undo_of_code in
    let old = c.loop-undoing.needs in
    let new = c.needs.result in
    record {
      covers = covers_more (undos_of us) i old new c.larger-needs.result (undo_of_code x) c.larger-needs.ensures (omega (arith, n)) (undo_at us i x c.undoing-item.is) c.loop-undoing.invariant.covers c.needs.ensures.covers;
      narrow = subst AreNarrow (sym c.larger-needs.ensures) (narrow_larger old new c.loop-undoing.invariant.narrow c.needs.ensures.narrow);
    }

pub returns-clause-covers : goal.returns-clause-covers
returns-clause-covers c = λ k d l. let n = length-map c.args.undoings.now undo_of_code in c.loop-undoing.invariant.covers k d (omega (arith, n, l))
