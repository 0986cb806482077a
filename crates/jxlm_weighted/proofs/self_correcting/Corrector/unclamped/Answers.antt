use Rattle.std.proofs.Common.{◌≡◌, ◌<◌, ℤ, List, FitsSigned, ◌∙◌, arith, rules, ap, w64}
use Rattle.std.proofs.lemmas.Int.{to_z-of_z}
use Rattle.std.proofs.lemmas.Nat.{mod-mul-add, div-mul-add}
use Rattle.jxlm_weighted.specs.Around.{neighbours_of}
use Rattle.jxlm_weighted.specs.Correcting.{counts_of}
use Rattle.jxlm_weighted.specs.Correcting.{near_of}
use Rattle.jxlm_weighted.specs.Neighbours.{Neighbours, column, row}
use Rattle.jxlm_weighted.specs.SelfCorrecting.{ErrorsNear, near, sub_predictions, weighted_average, weights}
use Rattle.jxlm_weighted.specs.declared.weights.WpHeader.{WpHeader}
use Rattle.jxlm_weighted.proofs.Correcting.{near_at}
use Rattle.jxlm_weighted.proofs.self_correcting.Corrector.unclamped.Goals as goal

pub returns : goal.returns
returns c = λ header width samples by place seen_is.
    let own = c.args.self.now.header in
    let x = c.args.x in
    let y = c.args.y in
    let wide = by.same_width in
    let in_row : x < width = let h = c.requires in omega arith in
    let cx : column samples width ≡ x = rw place (mod-mul-add y width x in_row) in
    let cy : row samples width ≡ y = rw place (div-mul-add y width x in_row) in
    let here = near header samples width in
    let are : near_of c.errors_around-errors.result ≡ here = c.errors_around-errors.ensures header width samples by ∙ near_at header samples width x y cx cy in
    let a = neighbours_of c.args.around.now in
    let e = near_of c.errors_around-errors.result in
    let u : FitsSigned w64 c.weighted.result = search rules in
    let made = c.weighted.ensures.value ∙ ap (λ (f : List ℤ). weighted_average f (counts_of c.weights.result)) c.of_place-subpred.ensures ∙ ap (weighted_average (sub_predictions own a e)) c.weights.ensures.value in
    let read = ap (λ (h : WpHeader). weighted_average (sub_predictions h a e) (weights h e.sums)) by.same_header in
    to_z-of_z w64 c.weighted.result u ∙ made ∙ read ∙ ap (λ (f : ErrorsNear). weighted_average (sub_predictions header a f) (weights header f.sums)) are ∙ ap (λ (b : Neighbours). weighted_average (sub_predictions header b here) (weights header here.sums)) seen_is
