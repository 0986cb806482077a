use Rattle.jxlm_bits.specs.declared.error.Error.TheVariants.{Bitstream}
use Rattle.jxlm_ma_tree.specs.TreeReading.{predictor_at}
use Rattle.jxlm_predictor.specs.declared.predictor.Predictor.{Predictor}
use Rattle.jxlm_ma_tree.proofs.StepErrors.{no_value, step_fails}
use Rattle.jxlm_ma_tree.proofs.nodes.read_predictor.Goals as goal

pub returns-in_err-number-clause-gives : goal.returns-in_err-number-clause-gives
unfolding predictor_at
returns-in_err-number-clause-gives g c =
    step_fails (λ (x : Predictor). x) c.from_residual.result c.in_err-number.field-0.0 c.args.decoder.now c.read_context.new.decoder c.args.bits.now c.read_context.new.bits
    (predictor_at g.D.Decoder.meaning) c.from_residual.ensures.0 c.from_residual.ensures.1 (rw c.in_err-number.ensures.gives)

pub returns-in_err-number-clause-clusters : goal.returns-in_err-number-clause-clusters
returns-in_err-number-clause-clusters g c = no_value c.from_residual.result _ c.from_residual.ensures.0

pub returns-in_err-try_from-clause-gives : goal.returns-in_err-try_from-clause-gives
unfolding predictor_at
returns-in_err-try_from-clause-gives g c =
    let none = c.in_err-try_from.ensures in
    step_fails (λ (x : Predictor). x) c.from_residual-in_err-try_from.result (Bitstream c.in_err-try_from.field-0.0) c.args.decoder.now c.read_context.new.decoder c.args.bits.now c.read_context.new.bits
    (predictor_at g.D.Decoder.meaning) c.from_residual-in_err-try_from.ensures.0 c.from_residual-in_err-try_from.ensures.1 (rw (c.in_ok-number.ensures.gives, none.0, none.1))

pub returns-in_err-try_from-clause-clusters : goal.returns-in_err-try_from-clause-clusters
returns-in_err-try_from-clause-clusters g c = no_value c.from_residual-in_err-try_from.result _ c.from_residual-in_err-try_from.ensures.0

pub returns-clause-gives : goal.returns-clause-gives
unfolding predictor_at
returns-clause-gives g c = rw (c.in_ok-number.ensures.gives, c.in_ok-try_from.ensures)
