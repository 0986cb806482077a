use Rattle.std.proofs.Common.{◌≡◌, ◌∙◌, bit_or, arith}
use Rattle.jxlm_bits.specs.Numbers.{floor_log2}
use Rattle.jxlm_weighted.proofs.Ranges.{log_of_odd, log_narrow}
use Rattle.jxlm_weighted.proofs.self_correcting.floor_log2.Goals as goal

pub returns-clause-value : goal.returns-clause-value
returns-clause-value c =
    let e : c.saturating_sub.result ≡ floor_log2 (bit_or c.args.n 1) = c.saturating_sub.ensures in
    e ∙ log_of_odd c.args.n (omega arith)

pub returns-clause-narrow : goal.returns-clause-narrow
returns-clause-narrow c = λ h.
    let e : c.saturating_sub.result ≡ floor_log2 c.args.n = returns-clause-value c in
    omega (arith, e, log_narrow c.args.n h)
