use Rattle.std.proofs.Common.{FitsSigned, ◌∙◌, ap, refl, rules}
use Rattle.std.specs.Int.{w32, w64, int_wrap}
use Rattle.std.proofs.lemmas.Int.{to_z-of_z}
use Rattle.jxlm_predictor.proofs.predictor.Predictor.predict.Goals as goal

pub predicted_from-requires : goal.predicted_from-requires
predicted_from-requires g c =
    let f : FitsSigned w64 c.eightfold-corrected.result = search rules in
    rw (to_z-of_z w64 c.eightfold-corrected.result f) c.eightfold-corrected.ensures.bound

pub returns : goal.returns
returns g c = λ s samples stands.
    let f : FitsSigned w64 c.eightfold-corrected.result = search rules in
    let p : FitsSigned w64 c.predicted_from.result = search rules in
    let r : FitsSigned w32 c.reduced.result = search rules in
    let e = c.predicted_from.ensures in
    let k = c.requires in
    to_z-of_z w32 c.reduced.result r ∙ c.reduced.ensures
    ∙ ap (int_wrap w32) (to_z-of_z w64 c.predicted_from.result p ∙ c.predicted_from.ensures ∙ rw (to_z-of_z w64 c.eightfold-corrected.result f, c.eightfold-corrected.ensures.value s.weights s.width samples (k.correction_is s samples stands), k.around_is s samples stands) refl)
