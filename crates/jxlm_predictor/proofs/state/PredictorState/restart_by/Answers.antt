use Rattle.std.proofs.Common.{[], ◌∙◌, ap, subst}
use Rattle.jxlm_predictor.specs.Standing.{StandsAt, setting, used_weights}
use Rattle.jxlm_predictor.proofs.state.PredictorState.restart_by.Goals.{then-weighted, else-weighted}
use Rattle.jxlm_predictor.proofs.state.PredictorState.restart_by.Goals as goal

pub returns-clause-stands : goal.returns-clause-stands
returns-clause-stands g c =
    elim c.if-weighted.branch [
      | then-weighted w ↦ rw w.if-weighted.true (subst (λ h. StandsAt c.begin.new.self (setting c.args.width h []) []) (ap used_weights w.self-is ∙ w.use_weights.ensures.used) (c.begin.ensures.stands [] (ap (λ (s : _). s.earlier.items) w.self-is ∙ ap (λ (v : _). v.items) w.use_weights.ensures.rest.same_earlier ∙ c.clear.ensures.items)))
      | else-weighted w ↦ rw w.if-weighted.false (subst (λ h. StandsAt c.begin.new.self (setting c.args.width h []) []) (ap used_weights w.self-is ∙ w.rest_weights.ensures.used) (c.begin.ensures.stands [] (ap (λ (s : _). s.earlier.items) w.self-is ∙ ap (λ (v : _). v.items) w.rest_weights.ensures.rest.same_earlier ∙ c.clear.ensures.items)))
    ]
