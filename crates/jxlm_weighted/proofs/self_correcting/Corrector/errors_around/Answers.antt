use Rattle.std.proofs.Common.{◌≡◌, ℕ, ℤ, List, ◌+◌, not, FitsSigned, ◌∙◌, rules, ap, length}
use Rattle.std.specs.Prelude.{nat_lt}
use Rattle.std.specs.Int.{w32}
use Rattle.std.proofs.lemmas.Int.{to_z-of_z}
use Rattle.jxlm_weighted.specs.Correcting.{cell_errors}
use Rattle.jxlm_weighted.specs.SelfCorrecting.{ErrorsNear, errors_of}
use Rattle.jxlm_weighted.proofs.Correcting.{near_is}
use Rattle.jxlm_weighted.proofs.self_correcting.Corrector.errors_around.Goals as goal

abbrev near_with : ℤ → ℤ → ℤ → ℤ → List ℕ → ErrorsNear
near_with w n nw ne sums = record { w = w; n = n; nw = nw; ne = ne; sums = sums }

pub returns : goal.returns
returns g c = λ header width samples by.
    let errors = errors_of header samples width (length samples) in
    let x = c.args.x in
    let y = c.args.y in
    let n = c.above-n.ensures header width x samples by in
    let nw = c.above_left-nw.ensures header width x samples by in
    let ne = c.above_right-ne.ensures header width x samples by in
    let w = c.left-w.ensures header width y samples by in
    let ww = c.two_left.ensures header width y samples by in
    let f0 : FitsSigned w32 c.left-w.result.true_error = search rules in
    let f1 : FitsSigned w32 c.above-n.result.true_error = search rules in
    let f2 : FitsSigned w32 c.above_left-nw.result.true_error = search rules in
    let f3 : FitsSigned w32 c.above_right-ne.result.true_error = search rules in
    let last : c.is_last-last.result ≡ not (nat_lt (x + 1) width) = c.is_last-last.ensures ∙ ap (λ (w : ℕ). not (nat_lt (x + 1) w)) by.same_width in
    rw (to_z-of_z w32 _ f0, to_z-of_z w32 _ f1, to_z-of_z w32 _ f2, to_z-of_z w32 _ f3)
    (ap (λ (f : List ℕ). near_with c.left-w.result.true_error c.above-n.result.true_error c.above_left-nw.result.true_error c.above_right-ne.result.true_error f) c.summed.ensures
    ∙ near_is errors width x y (cell_errors c.above_left-nw.result) (cell_errors c.two_left.result) (cell_errors c.above-n.result) (cell_errors c.left-w.result) (cell_errors c.above_right-ne.result) c.is_last-last.result nw n ne w ww last)
