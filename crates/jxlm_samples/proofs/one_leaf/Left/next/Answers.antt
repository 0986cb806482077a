use Rattle.std.proofs.Common.{◌∙◌, ap, map, rules, w32, FitsSigned}
use Rattle.std.specs.Prelude.{get_or}
use Rattle.std.proofs.lemmas.Int.{to_z-of_z}
use Rattle.jxlm_samples.specs.RowNeighbours.{west_in}
use Rattle.jxlm_samples.proofs.LeafCells.{left_next_is}
use Rattle.jxlm_samples.proofs.one_leaf.Left.next.Goals as goal

pub returns : goal.returns
returns g c = λ row inside left up.
    let above = map g.S.Sealed.to_int c.args.above.now in
    let x = c.args.x in
    let fv : FitsSigned w32 c.args.value = search rules in
    let fn : FitsSigned w32 c.args.n = search rules in
    let fw : FitsSigned w32 c.args.self.w = search rules in
    let fnw : FitsSigned w32 c.number_again-nw.result = search rules in
    let fww : FitsSigned w32 c.west_west_after-ww.result = search rules in
    let v = to_z-of_z w32 c.args.value fv in
    let nw = c.number_again-nw.ensures (west_in above row x) (to_z-of_z w32 c.args.n fn ∙ up) ∙ ap (get_or above x) v in
    let next = left_next_is above row x c.args.self c.args.value c.number_again-nw.result c.west_west_after-ww.result inside left nw (λ first. c.west_west_after-ww.ensures.first first ∙ v)
    (λ later. c.west_west_after-ww.ensures.later later ∙ to_z-of_z w32 c.args.self.w fw) in
    record {
      west = v ∙ next.west;
      north_west = to_z-of_z w32 c.number_again-nw.result fnw ∙ next.north_west;
      west_west = to_z-of_z w32 c.west_west_after-ww.result fww ∙ next.west_west;
    }
