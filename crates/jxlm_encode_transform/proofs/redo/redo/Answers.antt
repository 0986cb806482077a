use Rattle.std.proofs.Common.{sym}
use Rattle.jxlm_chain.specs.Undoings.{undo_of_code}
use Rattle.jxlm_chain.proofs.Nothing.{nothing_undone}
use Rattle.jxlm_chain.proofs.ShapeLaws.{shape_same}
use Rattle.jxlm_encode_transform.proofs.redo.redo.Goals as goal

pub redo_cells-requires-clause-room : goal.redo_cells-requires-clause-room
redo_cells-requires-clause-room g c κs within = c.requires.room (sym c.if-has_cells.ensures)

pub redo_cells-requires-clause-cells : goal.redo_cells-requires-clause-cells
redo_cells-requires-clause-cells g c κs within = sym c.if-has_cells.ensures

pub returns-else-has_cells-clause-redone : goal.returns-else-has_cells-clause-redone
returns-else-has_cells-clause-redone g c = λ depth.
    nothing_undone g.S.Sealed.to_int g.S.Sealed.width depth c.args.store.now (undo_of_code c.args.undoing.now) (sym c.if-has_cells.ensures) c.requires.can

pub returns-else-has_cells-clause-shape : goal.returns-else-has_cells-clause-shape
returns-else-has_cells-clause-shape g c = shape_same c.args.store.now
