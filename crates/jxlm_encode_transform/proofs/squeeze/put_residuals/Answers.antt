use Rattle.std.proofs.Common.{◌≡◌, ◌∙◌, ℕ, ◌+◌, ◌*◌, ◌/◌, ◌≤◌, ◌-◌, drop, length, arith}
use Rattle.jxlm_base.proofs.RegionRows.{length-part}
use Rattle.jxlm_encode_transform.specs.Inner.Squeezed.{residual_of}
use Rattle.jxlm_encode_transform.proofs.LineSteps.{lines_next, no_lines}
use Rattle.jxlm_encode_transform.proofs.StripSteps.{line_within}
use Rattle.jxlm_encode_transform.proofs.squeeze.put_residuals.Goals as goal

pub loop-k-init : goal.loop-k-init
loop-k-init g c = no_lines g.S.Sealed.to_int c.args.residuals.now c.args.strip.width (residual_of g.S.Sealed.to_int g.S.Sealed.width c.args.strip c.args.store.now)

pub loop-k-preserved : goal.loop-k-preserved
loop-k-preserved g c =
    let f = g.S.Sealed.to_int in
    let strip = c.args.strip in
    let n : ℕ = strip.width in
    let k : ℕ = c.loop-k.k in
    let xs = c.loop-k.residuals in
    let room : length xs ≡ strip.height / 2 * n = c.loop-k.auto.residuals ∙ c.requires.room in
    let fits : k * n + n ≤ length xs = line_within k (strip.height / 2) n (length xs) (omega arith) room in
    lines_next f xs c.residual_line.new.line (drop (k * n + n - k * n) (drop (k * n) xs)) n k (residual_of f g.S.Sealed.width strip c.args.store.now) (c.residual_line.ensures.len ∙ length-part xs (k * n) n fits) fits c.loop-k.invariant c.residual_line.ensures.residuals
