use Rattle.std.proofs.Common.{sym, subst}
use Rattle.jxlm_chain.specs.Steps.{CanUndo}
use Rattle.jxlm_chain.specs.Undo.{Undoes}
use Rattle.jxlm_chain.specs.Undoings.{undo_of_code}
use Rattle.jxlm_chain.proofs.undo.Undoing.run_cells.Goals as goal

pub run_colour-requires-clause-can : goal.run_colour-requires-clause-can
run_colour-requires-clause-can g c κs within = subst (λ u. CanUndo c.args.store.now (undo_of_code u)) c.in-Colour.is c.requires.can

pub returns-in-Colour-clause-undoes : goal.returns-in-Colour-clause-undoes
returns-in-Colour-clause-undoes g c =
    subst (λ u. Undoes g.S.Sealed.to_int g.S.Sealed.width c.args.bit_depth (undo_of_code u) c.args.store.now c.run_colour.new.store) (sym c.in-Colour.is) (c.run_colour.ensures.undoes c.args.bit_depth)

pub returns-in-Squeeze-clause-undoes : goal.returns-in-Squeeze-clause-undoes
returns-in-Squeeze-clause-undoes g c =
    subst (λ u. Undoes g.S.Sealed.to_int g.S.Sealed.width c.args.bit_depth (undo_of_code u) c.args.store.now c.run_squeeze.new.store) (sym c.in-Squeeze.is) (c.run_squeeze.ensures.undoes c.args.bit_depth)
