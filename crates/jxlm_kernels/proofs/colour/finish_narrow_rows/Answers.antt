use Rattle.std.proofs.Common.{sym, subst, w16}
use Rattle.std.proofs.lemmas.List.{length-map}
use Rattle.jxlm_lanes.specs.FinishedCells.{FinishesCells}
use Rattle.jxlm_lanes.proofs.ColourRows.{rows_joined}
use Rattle.jxlm_lanes.proofs.ColourEights.{numbers, six_numbers}
use Rattle.jxlm_kernels.proofs.colour.finish_narrow_rows.Goals as goal

pub returns : goal.returns
returns c =
    let ty = c.args.ty in
    let a = c.args.a.now in
    let b = c.args.b.now in
    let d = c.args.c.now in
    let n = c.finish_eights-from.result in
    let x = c.finish_eights-from.new.a in
    let y = c.finish_eights-from.new.b in
    let z = c.finish_eights-from.new.c in
    rows_joined w16 ty n (numbers a) (numbers b) (numbers d) (numbers x) (numbers y) (numbers z)
    (numbers c.finish_from.new.a) (numbers c.finish_from.new.b) (numbers c.finish_from.new.c)
    (six_numbers (FinishesCells w16 ty 0 n) a b d x y z c.finish_eights-from.ensures.finished)
    (subst (λ m. FinishesCells w16 ty n m (numbers x) (numbers y) (numbers z) (numbers c.finish_from.new.a) (numbers c.finish_from.new.b) (numbers c.finish_from.new.c)) (sym (length-map x (λ u. u)))
    c.finish_from.ensures)
