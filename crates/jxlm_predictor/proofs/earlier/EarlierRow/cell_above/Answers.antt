use Rattle.std.proofs.Common.{◌<◌, rules, refl, sym, subst, ◌∙◌, w32, FitsSigned, arith}
use Rattle.std.proofs.lemmas.Int.{to_z-of_z}
use Rattle.std.proofs.lemmas.Option.{slice_get-get_or}
use Rattle.jxlm_base.proofs.GridLaws.{at_from_cell}
use Rattle.jxlm_base.proofs.Regions.{cell-grid_of_read}
use Rattle.jxlm_base.specs.Regions.{grid_of, store_meanings}
use Rattle.jxlm_predictor.proofs.earlier.EarlierRow.cell_above.Goals as goal

pub returns : goal.returns
returns g c r store y h =
    let fits : FitsSigned w32 c.to_i32.result = search rules in
    let inside : c.args.x < r.width = subst (λ n. c.args.x < n) h.above_long c.requires in
    let below : y < r.height = let under = h.below in omega (arith, under) in
    to_z-of_z w32 c.to_i32.result fits ∙ c.to_i32.ensures.value
    ∙ sym (at_from_cell (grid_of (store_meanings g.S.Sealed.to_int store) r) c.args.x y _
    (cell-grid_of_read g.S.Sealed.to_int store r c.args.x y _ inside below (h.above_is y c.args.x refl inside ∙ slice_get-get_or c.args.self.above.now c.args.x c.index-self-x.result c.requires)))
