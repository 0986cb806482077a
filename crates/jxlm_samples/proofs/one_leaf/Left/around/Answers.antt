use Rattle.std.proofs.Common.{◌+◌, ◌∙◌, ap, map, rules, w32, FitsSigned}
use Rattle.std.specs.Prelude.{get_or}
use Rattle.std.proofs.lemmas.Int.{to_z-of_z}
use Rattle.jxlm_samples.proofs.RowNeighbours.{same_seven}
use Rattle.jxlm_samples.proofs.one_leaf.Left.around.Goals as goal

pub returns : goal.returns
returns g c = λ row left.
    let above = map g.S.Sealed.to_int c.args.above.one.now in
    let two = map g.S.Sealed.to_int c.args.above.two.now in
    let x = c.args.x in
    let fw : FitsSigned w32 c.args.self.now.w = search rules in
    let fn : FitsSigned w32 c.number_above-n.result = search rules in
    let fnw : FitsSigned w32 c.args.self.now.nw = search rules in
    let fne : FitsSigned w32 c.number_above-ne.result = search rules in
    let fnee : FitsSigned w32 c.number_above-nee.result = search rules in
    let fnn : FitsSigned w32 c.number_above-nn.result = search rules in
    let fww : FitsSigned w32 c.args.self.now.ww = search rules in
    let w = to_z-of_z w32 c.args.self.now.w fw ∙ left.west in
    let n = to_z-of_z w32 c.number_above-n.result fn ∙ c.number_above-n.ensures ∙ ap (get_or above x) w in
    let ne = to_z-of_z w32 c.number_above-ne.result fne ∙ c.number_above-ne.ensures ∙ ap (get_or above (x + 1)) n in
    let nee = to_z-of_z w32 c.number_above-nee.result fnee ∙ c.number_above-nee.ensures ∙ ap (get_or above (x + 2)) ne in
    let nn = to_z-of_z w32 c.number_above-nn.result fnn ∙ c.number_above-nn.ensures ∙ ap (get_or two x) n in
    same_seven w n (to_z-of_z w32 c.args.self.now.nw fnw ∙ left.north_west) ne nee nn (to_z-of_z w32 c.args.self.now.ww fww ∙ left.west_west)
