use Rattle.std.proofs.Common.{◌≡◌, true, [], ◌∷◌, length, sym, subst}
use Rattle.jxlm_chain.specs.Scratch.{have_cells}
use Rattle.jxlm_chain.specs.Steps.{CanUndo}
use Rattle.jxlm_chain.specs.Undo.{Undoes}
use Rattle.jxlm_chain.specs.Undoings.{undo_of_code}
use Rattle.jxlm_chain.proofs.ShapeLaws.{shape_kept}
use Rattle.jxlm_encode_transform.specs.Inner.Room.{HasRoomForCells}
use Rattle.jxlm_encode_transform.specs.Redo.{UndoesNoPalette}
use Rattle.jxlm_encode_transform.proofs.Forward.{some_rows}
use Rattle.jxlm_encode_transform.proofs.redo.redo_cells.Goals as goal

pub code-requires-clause-can : goal.code-requires-clause-can
code-requires-clause-can g c κs within = subst (λ u. CanUndo c.args.store.now (undo_of_code u)) c.in-Colour.is c.requires.can

pub code-requires-clause-room : goal.code-requires-clause-room
code-requires-clause-room g c κs within = subst (λ u. HasRoomForCells (length c.args.scratch.now) (undo_of_code u)) c.in-Colour.is c.requires.room

pub squeeze-requires-clause-lies : goal.squeeze-requires-clause-lies
squeeze-requires-clause-lies g c κs within = subst (λ u. CanUndo c.args.store.now (undo_of_code u)) c.in-Squeeze.is c.requires.can

pub squeeze-requires-clause-some_rows : goal.squeeze-requires-clause-some_rows
squeeze-requires-clause-some_rows g c κs within = some_rows c.in-Squeeze.region (subst (λ u. have_cells (undo_of_code u) ≡ true) c.in-Squeeze.is c.requires.cells)

pub squeeze-requires-clause-room : goal.squeeze-requires-clause-room
squeeze-requires-clause-room g c κs within = subst (λ u. HasRoomForCells (length c.args.scratch.now) (undo_of_code u)) c.in-Squeeze.is c.requires.room

pub returns-in-Colour-clause-redone : goal.returns-in-Colour-clause-redone
returns-in-Colour-clause-redone g c = λ depth.
    subst (λ u. Undoes g.S.Sealed.to_int g.S.Sealed.width depth (undo_of_code u) c.code.new.store c.args.store.now) (sym c.in-Colour.is) (c.code.ensures.undone depth)

pub returns-in-Colour-clause-shape : goal.returns-in-Colour-clause-shape
returns-in-Colour-clause-shape g c = shape_kept c.in-Colour.regions c.args.store.now c.code.new.store c.code.ensures.keeps

pub returns-in-Palette : goal.returns-in-Palette
returns-in-Palette g c = absurd (subst (λ u. UndoesNoPalette (undo_of_code u)) c.in-Palette.is c.requires.no_palette)

pub returns-in-Squeeze-clause-redone : goal.returns-in-Squeeze-clause-redone
returns-in-Squeeze-clause-redone g c = λ depth.
    subst (λ u. Undoes g.S.Sealed.to_int g.S.Sealed.width depth (undo_of_code u) c.squeeze.new.store c.args.store.now) (sym c.in-Squeeze.is) (c.squeeze.ensures.undone depth)

pub returns-in-Squeeze-clause-shape : goal.returns-in-Squeeze-clause-shape
returns-in-Squeeze-clause-shape g c = shape_kept (c.in-Squeeze.region ∷ []) c.args.store.now c.squeeze.new.store c.squeeze.ensures.keeps
