use Rattle.std.proofs.Common.{◌∙◌, map, rules, w32, FitsSigned}
use Rattle.std.proofs.lemmas.Int.{to_z-of_z}
use Rattle.jxlm_samples.proofs.one_leaf.Left.of.Goals as goal

pub returns : goal.returns
returns g c =
    let to_int = g.S.Sealed.to_int in
    let fw : FitsSigned w32 c.west-w.result = search rules in
    let fnw : FitsSigned w32 c.north_west-nw.result = search rules in
    let fww : FitsSigned w32 c.west_west-ww.result = search rules in
    let west = to_z-of_z w32 c.west-w.result fw ∙ c.west-w.ensures in
    record {
      west = west;
      north_west = to_z-of_z w32 c.north_west-nw.result fnw ∙ c.north_west-nw.ensures (map to_int c.args.row.now) west;
      west_west = to_z-of_z w32 c.west_west-ww.result fww ∙ c.west_west-ww.ensures (map to_int c.args.above.now) west;
    }
