use Rattle.std.proofs.Common.{◌≡◌, ◌∙◌, ap, subst, ◌<◌, ◌+◌, ◌*◌, ◌/◌, ℕ, ℤ, length, FitsSigned, arith, w16}
use lib.Lanes.{chunk}
use Rattle.jxlm_lanes.specs.Pairs.{first_of, second_of, ArePairs}
use Rattle.jxlm_lanes.specs.Inner.Lanes.{lane}
use Rattle.jxlm_lanes.proofs.Each.{same_numbers}
use Rattle.jxlm_lanes.proofs.Lines.{LinesSoFar, lines_from, no_pairs}
use Rattle.jxlm_lanes.proofs.Eights.{back, back_fits, chunk_fits, still_fits, four, moved, eight_more}
use Rattle.jxlm_lanes.proofs.lanes.unsqueeze_eights.Goals as goal

pub loop-k-init : goal.loop-k-init
loop-k-init c =
    lines_from (λ x. x) w16 c.args.averages.now c.args.next.now c.args.residuals.now c.args.strip.now (length c.args.averages.now) c.args.at 0
    (no_pairs (λ x. x) w16 c.args.averages.now c.args.next.now c.args.residuals.now c.args.strip.now (length c.args.averages.now) c.args.at c.args.strip.now)

pub pairs-requires-clause-before_fit : goal.pairs-requires-clause-before_fit
pairs-requires-clause-before_fit c =
    let i : ℕ = c.args.at + 8 * c.loop-k.k in
    let room = c.requires.room in
    let lt = c.loop-k-test.true in
    let so_far = c.loop-k.invariant in
    let len = so_far.len in
    back_fits w16 (chunk i 8 c.loop-k.strip) (chunk_fits w16 c.loop-k.strip i (omega arith)
    (λ j h. still_fits w16 c.args.strip.now c.loop-k.strip (i + j) (so_far.kept (i + j) (omega arith)) (c.line_fits-4.ensures (i + j) (omega arith))))

pub pairs-requires-clause-average_fit : goal.pairs-requires-clause-average_fit
pairs-requires-clause-average_fit c =
    let i : ℕ = 8 * c.loop-k.k in
    let lt = c.loop-k-test.true in
    back_fits w16 (chunk i 8 c.args.averages.now) (chunk_fits w16 c.args.averages.now i (omega arith) (λ j h. c.line_fits.ensures (i + j) (omega arith)))

pub pairs-requires-clause-next_fit : goal.pairs-requires-clause-next_fit
pairs-requires-clause-next_fit c =
    let i : ℕ = 8 * c.loop-k.k in
    let lt = c.loop-k-test.true in
    let len = c.requires.next_len in
    back_fits w16 (chunk i 8 c.args.next.now) (chunk_fits w16 c.args.next.now i (omega arith) (λ j h. c.line_fits-2.ensures (i + j) (omega arith)))

pub pairs-requires-clause-residual_fit : goal.pairs-requires-clause-residual_fit
pairs-requires-clause-residual_fit c =
    let i : ℕ = 8 * c.loop-k.k in
    let lt = c.loop-k-test.true in
    let len = c.requires.residuals_len in
    back_fits w16 (chunk i 8 c.args.residuals.now) (chunk_fits w16 c.args.residuals.now i (omega arith) (λ j h. c.line_fits-3.ensures (i + j) (omega arith)))

pub loop-k-preserved : goal.loop-k-preserved
loop-k-preserved c =
    let at : ℕ = c.args.at in
    let n : ℕ = length c.args.averages.now in
    let i : ℕ = 8 * c.loop-k.k in
    let room = c.requires.room in
    let lt = c.loop-k-test.true in
    let so_far = c.loop-k.invariant in
    let len = so_far.len in
    let e2 = c.requires.next_len in
    let e3 = c.requires.residuals_len in
    let old = c.args.strip.now in
    let strip = c.loop-k.strip in
    let ms = c.args.averages.now in
    let xs = c.args.next.now in
    let rs = c.args.residuals.now in
    let one : back w16 c.pairs.result.0 ≡ c.pairs.result.0 = same_numbers w16 c.pairs.result.0 c.pairs.ensures.first_fits in
    let two : back w16 c.pairs.result.1 ≡ c.pairs.result.1 = same_numbers w16 c.pairs.result.1 c.pairs.ensures.second_fits in
    let fits : (j : ℕ) → j < 8 → FitsSigned w16 (lane strip (at + i + j)) = λ j h.
    still_fits w16 old strip (at + i + j) (so_far.kept (at + i + j) (omega arith)) (c.line_fits-4.ensures (at + i + j) (omega arith)) in
    let args : (p : ℤ → ℤ → ℤ → ℤ → ℤ) (j : ℕ) → j < 8 →
    p (lane (back w16 (chunk (at + i) 8 strip)) j) (lane (back w16 (chunk i 8 ms)) j) (lane (back w16 (chunk i 8 xs)) j) (lane (back w16 (chunk i 8 rs)) j)
    ≡ p (lane strip (at + (i + j))) (lane ms (i + j)) (lane xs (i + j)) (lane rs (i + j)) = λ p j h.
    (let is : at + i + j ≡ at + (i + j) = omega arith in
    four p _ _ _ _ _ _ _ _ (moved w16 strip (at + i) j (omega arith) fits h ∙ ap (lane strip) is) (moved w16 ms i j (omega arith) (λ k l. c.line_fits.ensures (i + k) (omega arith)) h)
    (moved w16 xs i j (omega arith) (λ k l. c.line_fits-2.ensures (i + k) (omega arith)) h) (moved w16 rs i j (omega arith) (λ k l. c.line_fits-3.ensures (i + k) (omega arith)) h)) in
    let next : i + 8 ≡ 8 * (c.loop-k.k + 1) = omega arith in
    subst (LinesSoFar (λ x. x) w16 ms xs rs old n at _) next
    (eight_more w16 ms xs rs old n at strip (back w16 c.pairs.result.0) (back w16 c.pairs.result.1) i (omega arith) room (ap length one ∙ c.pairs.ensures.first_len) (ap length two ∙ c.pairs.ensures.second_len)
    (λ j h. ap (λ l. lane l j) one ∙ c.pairs.ensures.first j h ∙ args (first_of w16) j h)
    (λ j h. ap (λ l. lane l j) two ∙ c.pairs.ensures.second j h ∙ args (second_of w16) j h)
    (λ j h. c.line_fits.ensures j h) (λ j h. c.line_fits-3.ensures j (omega arith)) so_far)

pub returns-clause-undone : goal.returns-clause-undone
returns-clause-undone c =
    let n : ℕ = length c.args.averages.now in
    let test = c.loop-k-test.false in
    let end = c.loop-k.auto.k-end in
    let e : 8 * c.loop-k.k ≡ n / 8 * 8 = omega arith in
    subst (ArePairs (λ x. x) w16 c.args.averages.now c.args.next.now c.args.residuals.now n c.args.at c.loop-k.strip) e c.loop-k.invariant.pairs
