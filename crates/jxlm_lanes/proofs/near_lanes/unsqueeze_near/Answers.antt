use Rattle.std.proofs.Common.{◌≡◌, ◌∙◌, ap, subst, ◌<◌, ◌+◌, ◌*◌, ◌≤◌, ℕ, ℤ, List, length, FitsSigned, arith, w32}
use Rattle.std.proofs.lemmas.Simd.{length-chunk}
use lib.Lanes.{chunk}
use Rattle.jxlm_lanes.specs.Pairs.{first_of, second_of}
use Rattle.jxlm_lanes.specs.Inner.Lanes.{lane, AreWideEight}
use Rattle.jxlm_lanes.proofs.Each.{same_numbers}
use Rattle.jxlm_lanes.proofs.Lines.{LinesSoFar}
use Rattle.jxlm_lanes.proofs.Eights.{back, chunk_fits, still_fits, four, moved, eight_more}
use Rattle.jxlm_lanes.proofs.NearPairs.{wide_eight_back}
use Rattle.jxlm_lanes.proofs.near_lanes.unsqueeze_near.Goals as goal

wide_chunk : (xs : List ℤ) (i : ℕ) → i + 8 ≤ length xs → ((j : ℕ) → j < 8 → FitsSigned w32 (lane xs (i + j))) → AreWideEight (back w32 (chunk i 8 xs))
wide_chunk xs i le h = wide_eight_back (chunk i 8 xs) (record { len = length-chunk i 8 xs le; fit = chunk_fits w32 xs i le h })

pub have_small_spreads-requires-clause-before : goal.have_small_spreads-requires-clause-before
have_small_spreads-requires-clause-before c =
    let i : ℕ = c.args.at + 8 * c.loop-k.k in
    let room = c.requires.room in
    let lt = c.loop-k-test.true in
    let so_far = c.loop-k.invariant in
    let len = so_far.len in
    wide_chunk c.loop-k.strip i (omega arith)
    (λ j h. still_fits w32 c.args.strip.now c.loop-k.strip (i + j) (so_far.kept (i + j) (omega arith)) (c.line_fits-4.ensures (i + j) (omega arith)))

pub have_small_spreads-requires-clause-average : goal.have_small_spreads-requires-clause-average
have_small_spreads-requires-clause-average c =
    let lt = c.loop-k-test.true in wide_chunk c.args.averages.now (8 * c.loop-k.k) (omega arith) (λ j h. c.line_fits.ensures (8 * c.loop-k.k + j) (omega arith))

pub have_small_spreads-requires-clause-next : goal.have_small_spreads-requires-clause-next
have_small_spreads-requires-clause-next c =
    let lt = c.loop-k-test.true in
    let len = c.requires.next_len in
    wide_chunk c.args.next.now (8 * c.loop-k.k) (omega arith) (λ j h. c.line_fits-2.ensures (8 * c.loop-k.k + j) (omega arith))

pub have_small_spreads-requires-clause-residual : goal.have_small_spreads-requires-clause-residual
have_small_spreads-requires-clause-residual c =
    let lt = c.loop-k-test.true in
    let len = c.requires.residuals_len in
    wide_chunk c.args.residuals.now (8 * c.loop-k.k) (omega arith) (λ j h. c.line_fits-3.ensures (8 * c.loop-k.k + j) (omega arith))

pub eight_pairs-requires-clause-before : goal.eight_pairs-requires-clause-before
eight_pairs-requires-clause-before c =
    let i : ℕ = c.args.at + 8 * c.loop-k.k in
    let room = c.requires.room in
    let lt = c.loop-k-test.true in
    let so_far = c.loop-k.invariant in
    let len = so_far.len in
    wide_chunk c.loop-k.strip i (omega arith)
    (λ j h. still_fits w32 c.args.strip.now c.loop-k.strip (i + j) (so_far.kept (i + j) (omega arith)) (c.line_fits-4.ensures (i + j) (omega arith)))

pub eight_pairs-requires-clause-average : goal.eight_pairs-requires-clause-average
eight_pairs-requires-clause-average c =
    let lt = c.loop-k-test.true in wide_chunk c.args.averages.now (8 * c.loop-k.k) (omega arith) (λ j h. c.line_fits.ensures (8 * c.loop-k.k + j) (omega arith))

pub eight_pairs-requires-clause-next : goal.eight_pairs-requires-clause-next
eight_pairs-requires-clause-next c =
    let lt = c.loop-k-test.true in
    let len = c.requires.next_len in
    wide_chunk c.args.next.now (8 * c.loop-k.k) (omega arith) (λ j h. c.line_fits-2.ensures (8 * c.loop-k.k + j) (omega arith))

pub eight_pairs-requires-clause-residual : goal.eight_pairs-requires-clause-residual
eight_pairs-requires-clause-residual c =
    let lt = c.loop-k-test.true in
    let len = c.requires.residuals_len in
    wide_chunk c.args.residuals.now (8 * c.loop-k.k) (omega arith) (λ j h. c.line_fits-3.ensures (8 * c.loop-k.k + j) (omega arith))

pub loop-k-preserved : goal.loop-k-preserved
loop-k-preserved c =
    let at : ℕ = c.args.at in
    let n : ℕ = length c.args.averages.now in
    let i : ℕ = 8 * c.loop-k.k in
    let room = c.requires.room in
    let lt = c.loop-k-test.true in
    let so_far = c.loop-k.invariant in
    let len = so_far.len in
    let e2 = c.requires.next_len in
    let e3 = c.requires.residuals_len in
    let old = c.args.strip.now in
    let strip = c.loop-k.strip in
    let ms = c.args.averages.now in
    let xs = c.args.next.now in
    let rs = c.args.residuals.now in
    let one : back w32 c.eight_pairs.result.0 ≡ c.eight_pairs.result.0 = same_numbers w32 c.eight_pairs.result.0 c.eight_pairs.ensures.first_eight.fit in
    let two : back w32 c.eight_pairs.result.1 ≡ c.eight_pairs.result.1 = same_numbers w32 c.eight_pairs.result.1 c.eight_pairs.ensures.second_eight.fit in
    let fits : (j : ℕ) → j < 8 → FitsSigned w32 (lane strip (at + i + j)) = λ j h.
    still_fits w32 old strip (at + i + j) (so_far.kept (at + i + j) (omega arith)) (c.line_fits-4.ensures (at + i + j) (omega arith)) in
    let args : (p : ℤ → ℤ → ℤ → ℤ → ℤ) (j : ℕ) → j < 8 →
    p (lane (back w32 (chunk (at + i) 8 strip)) j) (lane (back w32 (chunk i 8 ms)) j) (lane (back w32 (chunk i 8 xs)) j) (lane (back w32 (chunk i 8 rs)) j)
    ≡ p (lane strip (at + (i + j))) (lane ms (i + j)) (lane xs (i + j)) (lane rs (i + j)) = λ p j h.
    (let is : at + i + j ≡ at + (i + j) = omega arith in
    four p _ _ _ _ _ _ _ _ (moved w32 strip (at + i) j (omega arith) fits h ∙ ap (lane strip) is) (moved w32 ms i j (omega arith) (λ k l. c.line_fits.ensures (i + k) (omega arith)) h)
    (moved w32 xs i j (omega arith) (λ k l. c.line_fits-2.ensures (i + k) (omega arith)) h) (moved w32 rs i j (omega arith) (λ k l. c.line_fits-3.ensures (i + k) (omega arith)) h)) in
    let next : i + 8 ≡ 8 * (c.loop-k.k + 1) = omega arith in
    subst (LinesSoFar (λ x. x) w32 ms xs rs old n at _) next
    (eight_more w32 ms xs rs old n at strip (back w32 c.eight_pairs.result.0) (back w32 c.eight_pairs.result.1) i (omega arith) room (ap length one ∙ c.eight_pairs.ensures.first_eight.len) (ap length two ∙ c.eight_pairs.ensures.second_eight.len)
    (λ j h. ap (λ l. lane l j) one ∙ c.eight_pairs.ensures.first j h ∙ args (first_of w32) j h)
    (λ j h. ap (λ l. lane l j) two ∙ c.eight_pairs.ensures.second j h ∙ args (second_of w32) j h)
    (λ j h. c.line_fits.ensures j h) (λ j h. c.line_fits-3.ensures j (omega arith)) so_far)
