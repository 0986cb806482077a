use Rattle.std.proofs.Common.{sym}
use Rattle.jxlm_chain.specs.Undoings.{undo_of_code}
use Rattle.jxlm_chain.proofs.Nothing.{nothing_undone}
use Rattle.jxlm_chain.proofs.undo.Undoing.run.Goals as goal

pub returns-else-have_cells-clause-undoes : goal.returns-else-have_cells-clause-undoes
returns-else-have_cells-clause-undoes g c =
    nothing_undone g.S.Sealed.to_int g.S.Sealed.width c.args.bit_depth c.args.store.now (undo_of_code c.args.self.now) (sym c.if-have_cells.ensures) c.requires.can
