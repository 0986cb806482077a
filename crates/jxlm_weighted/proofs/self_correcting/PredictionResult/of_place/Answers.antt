use Rattle.std.proofs.Common.{ℤ, List, cond, FitsSigned, ◌∙◌, rules, ap, w64}
use Rattle.std.proofs.lemmas.Int.{to_z-of_z}
use Rattle.jxlm_weighted.specs.Around.{neighbours_of}
use Rattle.jxlm_weighted.specs.Correcting.{counts_of, near_of}
use Rattle.jxlm_weighted.specs.Inner.CorrectingSteps.{clamped_around}
use Rattle.jxlm_weighted.specs.SelfCorrecting.{is_clamped, sub_predictions, weighted_average}
use Rattle.jxlm_weighted.proofs.self_correcting.PredictionResult.of_place.Goals as goal

pub returns-clause-prediction : goal.returns-clause-prediction
returns-clause-prediction c =
    let h = c.args.header.now in
    let a = neighbours_of c.args.around.now in
    let e = near_of c.args.errors.now in
    let p : FitsSigned w64 c.settled.result = search rules in
    let u : FitsSigned w64 c.weighted-unclamped.result = search rules in
    let subs = sub_predictions h a e in
    let made = c.weighted-unclamped.ensures.value ∙ ap (λ (f : List ℤ). weighted_average f (counts_of c.weights.result)) c.of_place-subpred.ensures ∙ ap (weighted_average subs) c.weights.ensures.value in
    to_z-of_z w64 c.settled.result p ∙ c.settled.ensures.value ∙ ap (λ (z : ℤ). cond (is_clamped e) (clamped_around a z) z) (to_z-of_z w64 c.weighted-unclamped.result u ∙ made)
