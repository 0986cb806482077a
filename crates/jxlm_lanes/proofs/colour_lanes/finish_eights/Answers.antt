use Rattle.std.proofs.Common.{◌≡◌, ◌<◌, ◌∙◌, ◌+◌, ◌*◌, ◌/◌, ap, subst, ℕ, ℤ, List, length, w16, arith}
use lib.Lanes.{chunk, put_chunk}
use Rattle.jxlm_lanes.specs.Colour.{IsTripleOf, triple_at, finished_by}
use Rattle.jxlm_lanes.specs.FinishedCells.{FinishesCells}
use Rattle.jxlm_lanes.proofs.ColourLaws.{triple_same}
use Rattle.jxlm_lanes.proofs.ColourRows.{cells_start}
use Rattle.jxlm_lanes.proofs.Eights.{back, moved}
use Rattle.jxlm_lanes.proofs.Each.{eight_back, lane_back}
use Rattle.jxlm_lanes.proofs.ColourEights.{chunk_eight, cell_fits, eight_cells}
use Rattle.jxlm_lanes.proofs.colour_lanes.finish_eights.Goals as goal

pub loop-k-init : goal.loop-k-init
loop-k-init c = cells_start w16 c.args.ty 0 c.args.a.now c.args.b.now c.args.c.now

pub finished-requires-clause-a : goal.finished-requires-clause-a
finished-requires-clause-a c =
    let i : ℕ = 8 * c.loop-k.k in
    let second = c.requires.second in
    let third = c.requires.third in
    let lt = c.loop-k-test.true in
    let u = c.loop-k.invariant in
    let len = u.first_length in
    eight_back (chunk i 8 c.loop-k.a) (chunk_eight c.loop-k.a i (omega arith)
    (λ j h. (cell_fits c.args.ty i c.args.a.now c.args.b.now c.args.c.now c.loop-k.a c.loop-k.b c.loop-k.c (i + j) u (omega arith) (omega arith)
    (record { first = c.line_fits.ensures (i + j) (omega arith); second = c.line_fits-2.ensures (i + j) (omega arith); third = c.line_fits-3.ensures (i + j) (omega arith) })).first))

pub finished-requires-clause-b : goal.finished-requires-clause-b
finished-requires-clause-b c =
    let i : ℕ = 8 * c.loop-k.k in
    let second = c.requires.second in
    let third = c.requires.third in
    let lt = c.loop-k-test.true in
    let u = c.loop-k.invariant in
    let len = u.second_length in
    eight_back (chunk i 8 c.loop-k.b) (chunk_eight c.loop-k.b i (omega arith)
    (λ j h. (cell_fits c.args.ty i c.args.a.now c.args.b.now c.args.c.now c.loop-k.a c.loop-k.b c.loop-k.c (i + j) u (omega arith) (omega arith)
    (record { first = c.line_fits.ensures (i + j) (omega arith); second = c.line_fits-2.ensures (i + j) (omega arith); third = c.line_fits-3.ensures (i + j) (omega arith) })).second))

pub finished-requires-clause-c : goal.finished-requires-clause-c
finished-requires-clause-c c =
    let i : ℕ = 8 * c.loop-k.k in
    let second = c.requires.second in
    let third = c.requires.third in
    let lt = c.loop-k-test.true in
    let u = c.loop-k.invariant in
    let len = u.third_length in
    eight_back (chunk i 8 c.loop-k.c) (chunk_eight c.loop-k.c i (omega arith)
    (λ j h. (cell_fits c.args.ty i c.args.a.now c.args.b.now c.args.c.now c.loop-k.a c.loop-k.b c.loop-k.c (i + j) u (omega arith) (omega arith)
    (record { first = c.line_fits.ensures (i + j) (omega arith); second = c.line_fits-2.ensures (i + j) (omega arith); third = c.line_fits-3.ensures (i + j) (omega arith) })).third))

pub loop-k-preserved : goal.loop-k-preserved
loop-k-preserved c =
    let i : ℕ = 8 * c.loop-k.k in
    let second = c.requires.second in
    let third = c.requires.third in
    let lt = c.loop-k-test.true in
    let u = c.loop-k.invariant in
    let la = u.first_length in
    let lb = u.second_length in
    let lc = u.third_length in
    let a = c.loop-k.a in
    let b = c.loop-k.b in
    let d = c.loop-k.c in
    let fits : (k : ℕ) → k < length c.args.a.now → IsTripleOf w16 (triple_at c.args.a.now c.args.b.now c.args.c.now k) = λ k h.
    record { first = c.line_fits.ensures k h; second = c.line_fits-2.ensures k (omega arith); third = c.line_fits-3.ensures k (omega arith) } in
    let still : (j : ℕ) → j < 8 → IsTripleOf w16 (triple_at a b d (i + j)) = λ j h.
    cell_fits c.args.ty i c.args.a.now c.args.b.now c.args.c.now a b d (i + j) u (omega arith) (omega arith) (fits (i + j) (omega arith)) in
    let next : i + 8 ≡ 8 * (c.loop-k.k + 1) = omega arith in
    let x : List ℤ = back w16 c.finished.result.0 in
    let y : List ℤ = back w16 c.finished.result.1 in
    let z : List ℤ = back w16 c.finished.result.2 in
    subst (λ m. FinishesCells w16 c.args.ty 0 m c.args.a.now c.args.b.now c.args.c.now (put_chunk i a x) (put_chunk i b y) (put_chunk i d z)) next
    (eight_cells c.args.ty i c.args.a.now c.args.b.now c.args.c.now a b d x y z (omega arith) second third
    (eight_back c.finished.result.0 c.finished.ensures.first) (eight_back c.finished.result.1 c.finished.ensures.second) (eight_back c.finished.result.2 c.finished.ensures.third)
    u (λ k g h. fits k h)
    (λ j h.
    triple_same _ _ _ _ _ _ (lane_back c.finished.result.0 j c.finished.ensures.first) (lane_back c.finished.result.1 j c.finished.ensures.second) (lane_back c.finished.result.2 j c.finished.ensures.third)
    ∙ c.finished.ensures.value j h
    ∙ ap (finished_by w16 c.args.ty) (triple_same _ _ _ _ _ _ (moved w16 a i j (omega arith) (λ k l. (still k l).first) h) (moved w16 b i j (omega arith) (λ k l. (still k l).second) h)
    (moved w16 d i j (omega arith) (λ k l. (still k l).third) h))))

pub returns-clause-finished : goal.returns-clause-finished
returns-clause-finished c =
    let n : ℕ = length c.args.a.now in
    let test = c.loop-k-test.false in
    let end = c.loop-k.auto.k-end in
    let len = c.loop-k.invariant.first_length in
    let e : 8 * c.loop-k.k ≡ length c.loop-k.a / 8 * 8 = omega arith in
    subst (λ m. FinishesCells w16 c.args.ty 0 m c.args.a.now c.args.b.now c.args.c.now c.loop-k.a c.loop-k.b c.loop-k.c) e c.loop-k.invariant
