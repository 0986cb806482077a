use Rattle.std.proofs.Common.{◌∙◌, ◌<◌, ap, arith, length, map, rules, tests, w32, FitsSigned}
use Rattle.std.specs.Prelude.{get_or}
use Rattle.std.proofs.lemmas.Int.{to_z-of_z}
use Rattle.std.proofs.lemmas.List.{get_or_default, length-map}
use Rattle.jxlm_samples.proofs.one_leaf.number_again.Goals as goal

pub returns-then-this-ne0 : goal.returns-then-this-ne0
returns-then-this-ne0 g c = λ e is.
    let f : FitsSigned w32 c.number_or.result = search rules in
    let fo : FitsSigned w32 c.args.other = search rules in
    to_z-of_z w32 c.number_or.result f ∙ c.number_or.ensures ∙ ap (get_or (map g.S.Sealed.to_int c.args.above.now) c.args.x) (to_z-of_z w32 c.args.other fo)

pub returns-else-this-ne0 : goal.returns-else-this-ne0
returns-else-this-ne0 g c = λ e is.
    let above = map g.S.Sealed.to_int c.args.above.now in
    let n = length-map c.args.above.now g.S.Sealed.to_int in
    let h = c.requires (search (rules, tests)) in
    let inside : c.args.x < length above = omega (arith, n, h) in
    let f : FitsSigned w32 c.args.n = search rules in
    to_z-of_z w32 c.args.n f ∙ is ∙ get_or_default above c.args.x e c.args.other inside
