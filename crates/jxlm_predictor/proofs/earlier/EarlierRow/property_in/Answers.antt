use Rattle.std.proofs.Common.{◌∙◌, rules, w32, FitsSigned}
use Rattle.std.proofs.lemmas.Int.{to_z-of_z}
use Rattle.jxlm_predictor.proofs.earlier.EarlierRow.property_in.Goals as goal

pub returns : goal.returns
returns g c =
    let f : FitsSigned w32 c.property.result = search rules in
    to_z-of_z w32 c.property.result f ∙ c.property.ensures c.args.region c.args.store.now c.of.ensures
