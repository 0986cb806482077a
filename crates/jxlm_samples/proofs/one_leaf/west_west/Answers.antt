use Rattle.std.proofs.Common.{◌∙◌, map, rules, w32, FitsSigned}
use Rattle.std.proofs.lemmas.Int.{to_z-of_z}
use Rattle.jxlm_samples.proofs.LeafCells.{west_west_far, west_west_near}
use Rattle.jxlm_samples.proofs.one_leaf.west_west.Goals as goal

pub returns-then-from-lt2 : goal.returns-then-from-lt2
returns-then-from-lt2 g c = λ above is.
    let f : FitsSigned w32 c.args.w = search rules in
    to_z-of_z w32 c.args.w f ∙ west_west_near above (map g.S.Sealed.to_int c.args.row.now) c.args.from c.args.w c.if-from-lt2.true is

pub returns-else-from-lt2 : goal.returns-else-from-lt2
returns-else-from-lt2 g c = λ above is.
    let f : FitsSigned w32 c.to_i32.result = search rules in
    to_z-of_z w32 c.to_i32.result f ∙ c.to_i32.ensures.value ∙ west_west_far g.S.Sealed.to_int above c.args.row.now c.args.from c.index-row-from.result c.if-from-lt2.false c.requires c.index-row-from.is
