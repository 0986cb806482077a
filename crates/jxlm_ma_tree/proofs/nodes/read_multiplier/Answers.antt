use Rattle.std.proofs.Common.{◌≡◌, ◌-◌, ◌^◌, ◌<◌, ◌≤◌, ℕ, nat_lt, true, false, arith}
use Rattle.std.proofs.lemmas.Bool.Decides.{nat_tests}
use Rattle.jxlm_ma_tree.specs.TreeReading.{multiplier_at}
use Rattle.jxlm_ma_tree.proofs.Multipliers.{least_power, power_is, multiplier_below, multiplier_is, multiplier_from}
use Rattle.jxlm_ma_tree.proofs.StepErrors.{no_value, step_fails}
use Rattle.jxlm_ma_tree.proofs.nodes.read_multiplier.Goals as goal

-- a test by its meaning
above : (a b : ℕ) → a < b → nat_lt a b ≡ true
above a b h = grind (arith, nat_tests)

not_above : (a b : ℕ) → b ≤ a → nat_lt a b ≡ false
not_above a b h = grind (arith, nat_tests)

pub returns-in_err-log-clause-gives : goal.returns-in_err-log-clause-gives
unfolding multiplier_at
returns-in_err-log-clause-gives g c =
    step_fails (λ (x : ℕ). x) c.from_residual.result c.in_err-log.field-0.0 c.args.decoder.now c.read_context.new.decoder c.args.bits.now c.read_context.new.bits
    (multiplier_at g.D.Decoder.meaning) c.from_residual.ensures.0 c.from_residual.ensures.1 (rw c.in_err-log.ensures.gives)

pub returns-in_err-log-clause-range : goal.returns-in_err-log-clause-range
returns-in_err-log-clause-range g c = no_value c.from_residual.result _ c.from_residual.ensures.0

pub returns-in_err-log-clause-clusters : goal.returns-in_err-log-clause-clusters
returns-in_err-log-clause-clusters g c = no_value c.from_residual.result _ c.from_residual.ensures.0

pub returns-then-log-gt30-clause-gives : goal.returns-then-log-gt30-clause-gives
unfolding multiplier_at
returns-then-log-gt30-clause-gives g c = rw (c.in_ok-log.ensures.gives, above 30 c.in_ok-log.log c.if-log-gt30.true)

pub returns-in_err-factor-clause-gives : goal.returns-in_err-factor-clause-gives
unfolding multiplier_at
returns-in_err-factor-clause-gives g c =
    let failed = rw c.in_ok-log.ensures.bytes at c.in_err-factor.ensures.gives in
    step_fails (λ (x : ℕ). x) c.from_residual-in_err-factor.result c.in_err-factor.field-0.0 c.args.decoder.now c.read_context-2.new.decoder c.args.bits.now c.read_context-2.new.bits
    (multiplier_at g.D.Decoder.meaning) c.from_residual-in_err-factor.ensures.0 c.from_residual-in_err-factor.ensures.1
    (rw (c.in_ok-log.ensures.gives, not_above 30 c.in_ok-log.log c.if-log-gt30.false, failed))

pub returns-in_err-factor-clause-range : goal.returns-in_err-factor-clause-range
returns-in_err-factor-clause-range g c = no_value c.from_residual-in_err-factor.result _ c.from_residual-in_err-factor.ensures.0

pub returns-in_err-factor-clause-clusters : goal.returns-in_err-factor-clause-clusters
returns-in_err-factor-clause-clusters g c = no_value c.from_residual-in_err-factor.result _ c.from_residual-in_err-factor.ensures.0

pub overflow_sub-log-2 : goal.overflow_sub-log-2
overflow_sub-log-2 g c = rw (power_is c.in_ok-log.log c.if-log-gt30.false) (least_power c.in_ok-log.log c.if-log-gt30.false)

pub returns-then-factor-log-clause-gives : goal.returns-then-factor-log-clause-gives
unfolding multiplier_at
returns-then-factor-log-clause-gives g c =
    let beyond = rw (power_is c.in_ok-log.log c.if-log-gt30.false) at c.if-factor-log.true in
    let read = rw c.in_ok-log.ensures.bytes at c.in_ok-factor.ensures.gives in
    rw (c.in_ok-log.ensures.gives, not_above 30 c.in_ok-log.log c.if-log-gt30.false, read, above (2 ^ (31 - c.in_ok-log.log) - 2) c.in_ok-factor.factor beyond)

pub returns-clause-gives : goal.returns-clause-gives
unfolding multiplier_at
returns-clause-gives g c =
    let within = rw (power_is c.in_ok-log.log c.if-log-gt30.false) at c.if-factor-log.false in
    let read = rw c.in_ok-log.ensures.bytes at c.in_ok-factor.ensures.gives in
    rw (multiplier_is c.in_ok-log.log c.if-log-gt30.false c.in_ok-factor.factor within, c.in_ok-log.ensures.gives, not_above 30 c.in_ok-log.log c.if-log-gt30.false, read, not_above (2 ^ (31 - c.in_ok-log.log) - 2) c.in_ok-factor.factor within)

pub returns-clause-range : goal.returns-clause-range
returns-clause-range g c =
    let within = rw (power_is c.in_ok-log.log c.if-log-gt30.false) at c.if-factor-log.false in
    rw (multiplier_is c.in_ok-log.log c.if-log-gt30.false c.in_ok-factor.factor within)
    (multiplier_from c.in_ok-log.log c.if-log-gt30.false c.in_ok-factor.factor within, multiplier_below c.in_ok-log.log c.if-log-gt30.false c.in_ok-factor.factor within)
