use Rattle.std.proofs.Common.{sym, ◌∙◌}
use Rattle.jxl_encode_properties.proofs.Steps.{are_header}
use Rattle.jxl_encode_properties.proofs.walk.Walk.new.Goals as goal

pub reset-requires-clause-weights : goal.reset-requires-clause-weights
reset-requires-clause-weights c = λ x is. are_header c.args.weighted x (sym c.weights_if-weights.ensures ∙ (sym c.as_ref.ensures.value ∙ is))
