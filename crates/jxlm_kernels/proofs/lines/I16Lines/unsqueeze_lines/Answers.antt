use Rattle.std.proofs.Common.{◌≡◌, ◌∙◌, ◌<◌, ◌+◌, ℕ, length}
use Rattle.std.specs.Int.{w16}
use Rattle.jxlm_lanes.specs.Pairs.{number_at}
use Rattle.jxlm_lanes.proofs.Lines.{firsts, seconds}
use Rattle.jxlm_kernels.proofs.lines.I16Lines.unsqueeze_lines.Goals as goal

pub returns : goal.returns
returns c =
    let old = c.args.strip.now in
    let new = c.unsqueeze_from.new.strip in
    let n : ℕ = length c.args.averages.now in
    let kept : (i : ℕ) → i < c.args.at + n → number_at (λ x. x) new i ≡ number_at (λ x. x) old i = λ i h.
    c.unsqueeze_from.ensures.kept i h ∙ c.unsqueeze_eights-from.ensures.kept i h in
    let pairs = c.unsqueeze_from.ensures.undone in
    record {
      len = c.unsqueeze_from.ensures.len ∙ c.unsqueeze_eights-from.ensures.len;
      kept = kept;
      first = firsts (λ x. x) w16 c.args.averages.now c.args.next.now c.args.residuals.now old n c.args.at new kept pairs;
      second = seconds (λ x. x) w16 c.args.averages.now c.args.next.now c.args.residuals.now old n c.args.at new kept pairs;
      averages_fit = pairs.averages_fit;
      residuals_fit = pairs.residuals_fit;
    }
