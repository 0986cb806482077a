use Rattle.std.proofs.Common.{◌≡◌, ◌<◌, ◌∙◌, ap, arith}
use Rattle.std.proofs.lemmas.Nat.{mod-mul-add, div-mul-add}
use Rattle.jxlm_weighted.specs.Around.{neighbours_of}
use Rattle.jxlm_weighted.specs.Correcting.{near_of}
use Rattle.jxlm_weighted.specs.Neighbours.{Neighbours, column, row}
use Rattle.jxlm_weighted.specs.declared.self_correcting.ErrorsAround.{ErrorsAround}
use Rattle.jxlm_weighted.specs.SelfCorrecting.{greatest, near, predicted, sub_predictions}
use Rattle.jxlm_weighted.proofs.Correcting.{near_at}
use Rattle.jxlm_weighted.proofs.self_correcting.Corrector.predict.Goals as goal

pub returns : goal.returns
returns g c = λ header width samples by place seen_is.
    let x = c.args.x in
    let y = c.args.y in
    let wide = by.same_width in
    let in_row : x < width = let h = c.requires.in_row in omega arith in
    let cx : column samples width ≡ x = rw place (mod-mul-add y width x in_row) in
    let cy : row samples width ≡ y = rw place (div-mul-add y width x in_row) in
    let here = near header samples width in
    let are : near_of c.errors_around-errors.result ≡ here = c.errors_around-errors.ensures header width samples by ∙ near_at header samples width x y cx cy in
    let a = neighbours_of c.args.around.now in
    record {
      prediction_is = (rw by.same_header at c.of_place.ensures.prediction) ∙ ap (predicted header a) are ∙ ap (λ (b : Neighbours). predicted header b here) seen_is;
      errors_are = ap (λ (e : ErrorsAround). greatest (near_of e)) c.of_place.ensures.errors ∙ ap greatest are;
      subpred_is = (rw by.same_header at c.of_place.ensures.subpred) ∙ ap (sub_predictions header a) are ∙ ap (λ (b : Neighbours). sub_predictions header b here) seen_is;
    }
