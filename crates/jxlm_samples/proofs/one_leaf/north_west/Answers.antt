use Rattle.std.proofs.Common.{◌-◌, ◌∙◌, ap, arith, map, rules, w32, FitsSigned}
use Rattle.std.specs.Prelude.{get_or}
use Rattle.std.proofs.lemmas.Int.{to_z-of_z}
use Rattle.jxlm_samples.proofs.LeafCells.{north_west_first, north_west_later}
use Rattle.jxlm_samples.proofs.one_leaf.north_west.Goals as goal

pub returns-then-from-eq0 : goal.returns-then-from-eq0
returns-then-from-eq0 g c = λ row is.
    let f : FitsSigned w32 c.args.w = search rules in
    to_z-of_z w32 c.args.w f ∙ north_west_first (map g.S.Sealed.to_int c.args.above.now) row c.args.from c.args.w c.if-from-eq0.true is

pub returns-else-from-eq0 : goal.returns-else-from-eq0
returns-else-from-eq0 g c = λ row is.
    let above = map g.S.Sealed.to_int c.args.above.now in
    let f : FitsSigned w32 c.number_or.result = search rules in
    let fw : FitsSigned w32 c.args.w = search rules in
    to_z-of_z w32 c.number_or.result f
    ∙ north_west_later above row c.args.from c.args.w c.number_or.result (omega (arith, c.if-from-eq0.false)) is (c.number_or.ensures ∙ ap (get_or above (c.args.from - 1)) (to_z-of_z w32 c.args.w fw))
