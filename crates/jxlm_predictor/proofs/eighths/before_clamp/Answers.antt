use Rattle.std.proofs.Common.{◌≡◌, ℕ, ℤ, List, Some, None, Option, FitsSigned, ◌∙◌, rules, w64}
use Rattle.std.proofs.lemmas.Int.{to_z-of_z}
use Rattle.jxlm_weighted.specs.Correcting.{Corrects, CorrectsBy}
use Rattle.jxlm_weighted.specs.SelfCorrecting.{unclamped_correction, self_unclamped}
use Rattle.jxlm_weighted.specs.declared.weights.WpHeader.{WpHeader}
use Rattle.jxlm_weighted.specs.declared.self_correcting.Corrector.{Corrector}
use Rattle.jxlm_predictor.proofs.eighths.before_clamp.Goals as goal

-- a state that corrects has weights
of_weights : (weights : Option WpHeader) (c : Corrector) (width x y : ℕ) (samples : List ℤ) (v : ℤ) → Corrects (Some c) weights width x y samples →
    ((h : WpHeader) → CorrectsBy c h width x y samples → v ≡ self_unclamped h samples width) → v ≡ unclamped_correction weights samples width
of_weights None c width x y samples v corrects f = absurd corrects
of_weights (Some h) c width x y samples v corrects f = f h corrects

pub returns-in-Some : goal.returns-in-Some
returns-in-Some g c = λ s samples stands.
    let state = c.args.properties.now.state.now in
    let fits : FitsSigned w64 c.unclamped.result = search rules in
    let corrects = rw c.in-Some.is at stands.corrects in
    to_z-of_z w64 c.unclamped.result fits
    ∙ of_weights s.weights c.in-Some.corrector s.width state.x state.y samples c.unclamped.result corrects
    (λ h by. c.unclamped.ensures h s.width samples by stands.rolls.place (c.requires.around_is s samples stands))
