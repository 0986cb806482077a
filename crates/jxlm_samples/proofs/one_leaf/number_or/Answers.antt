use Rattle.std.proofs.Common.{◌∙◌, arith, ap, map, sym, rules, w32, FitsSigned}
use Rattle.std.proofs.lemmas.Int.{to_z-of_z}
use Rattle.std.proofs.lemmas.List.{get_or-map, get_or_past, length-map}
use Rattle.jxlm_samples.proofs.one_leaf.number_or.Goals as goal

pub returns-then-x-above : goal.returns-then-x-above
returns-then-x-above g c =
    let f : FitsSigned w32 c.to_i32.result = search rules in
    to_z-of_z w32 c.to_i32.result f ∙ c.to_i32.ensures.value ∙ ap g.S.Sealed.to_int c.index-above-x.is ∙ sym (get_or-map g.S.Sealed.to_int c.args.above.now c.args.x _ c.args.other (omega arith))

pub returns-else-x-above : goal.returns-else-x-above
returns-else-x-above g c =
    let f : FitsSigned w32 c.args.other = search rules in
    to_z-of_z w32 c.args.other f ∙ sym (get_or_past (map g.S.Sealed.to_int c.args.above.now) c.args.x c.args.other (let n = length-map c.args.above.now g.S.Sealed.to_int in omega (arith, n)))
