use Rattle.std.proofs.Common.{◌∙◌, ap, sym, rules, tests, w32, FitsSigned}
use Rattle.std.proofs.lemmas.Int.{to_z-of_z}
use Rattle.std.proofs.lemmas.List.{get_or-map}
use Rattle.jxlm_samples.proofs.one_leaf.number_above.Goals as goal

pub returns-else-this-ne0 : goal.returns-else-this-ne0
returns-else-this-ne0 g c =
    let f : FitsSigned w32 c.to_i32.result = search rules in
    to_z-of_z w32 c.to_i32.result f ∙ c.to_i32.ensures.value ∙ ap g.S.Sealed.to_int c.index-above-x.is ∙ sym (get_or-map g.S.Sealed.to_int c.args.above.now c.args.x _ c.args.other (c.requires (search (rules, tests))))
