use Rattle.std.proofs.Common.{rules, sym, ◌∙◌, w32, FitsSigned}
use Rattle.std.proofs.lemmas.Int.{to_z-of_z}
use Rattle.jxlm_base.proofs.GridLaws.{at_from_cell}
use Rattle.jxlm_base.proofs.Regions.{cell-grid_of_read}
use Rattle.jxlm_base.specs.Regions.{grid_of, store_meanings}
use Rattle.jxlm_inverse.proofs.palette.number_at.Goals as goal

pub returns : goal.returns
returns g c =
    let fits : FitsSigned w32 c.to_i32.result = search rules in
    to_z-of_z w32 c.to_i32.result fits ∙ c.to_i32.ensures.value
    ∙ sym (at_from_cell (grid_of (store_meanings g.S.Sealed.to_int c.args.store.now) c.args.region) c.args.x c.args.y _
    (cell-grid_of_read g.S.Sealed.to_int c.args.store.now c.args.region c.args.x c.args.y c.region_get.result c.requires.column c.requires.in_rows c.region_get.ensures))
