use Rattle.std.proofs.Common.{◌∙◌, sym, refl}
use Rattle.jxlm_transform.specs.Params.{are_clamped}
use Rattle.jxlm_transform.proofs.PlacedLists.{any_map}
use Rattle.jxlm_transform.proofs.channels.sums_for.Goals as goal

pub returns-then-ask_for_clamped : goal.returns-then-ask_for_clamped
returns-then-ask_for_clamped c = rw (any_map (λ c. are_clamped c.gradient_sums) (λ p. p.info) c.args.channels.now ∙ sym c.ask_for_clamped.ensures ∙ c.if-ask_for_clamped.true) refl

pub returns-else-ask_for_clamped : goal.returns-else-ask_for_clamped
returns-else-ask_for_clamped c = rw (any_map (λ c. are_clamped c.gradient_sums) (λ p. p.info) c.args.channels.now ∙ sym c.ask_for_clamped.ensures ∙ c.if-ask_for_clamped.false) refl
