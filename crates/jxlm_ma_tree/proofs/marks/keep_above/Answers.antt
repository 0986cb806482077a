use Rattle.std.proofs.Common.{◌≡◌, ◌<◌, ◌∷◌, [], ℤ, List, drop, length, refl, sym, ap, ◌∙◌, arith, rules, w32, to_z, of_z, SFits}
use Rattle.std.specs.Prelude.{slice_index_or}
use Rattle.std.proofs.lemmas.Int.{ints, to_z-of_z}
use Rattle.jxlm_ma_tree.proofs.Comparing.{not_less}
use Rattle.jxlm_ma_tree.proofs.CutLists.{above-step}
use Rattle.jxlm_ma_tree.proofs.marks.keep_above.Goals as goal

-- the first cut, and the others
apart : (z : ℤ) (now : List ℤ) → 0 < length now → z ≡ slice_index_or now 0 z → now ≡ z ∷ drop 1 now
apart z [] some at = absurd (omega arith)
apart z (x ∷ xs) some at = ap (λ w. w ∷ xs) (sym at)

pub loop-first-preserved : goal.loop-first-preserved
loop-first-preserved c =
    let fits : SFits w32 c.args.value = search rules in
    let at = rw c.in-Some.is at c.front.ensures.lookup in
    let there = rw c.in-Some.is at c.front.ensures.variant in
    let long = c.loop-first.cuts.ok.0 in
    let some = there.0 refl in
    let up_to_value = not_less (to_z w32 (of_z w32 c.args.value)) (to_z w32 (of_z w32 c.in-Some.first.now)) c.if-first-value.false in
    let first_fits : SFits w32 c.in-Some.first.now = search rules in
    above-step c.args.value _ c.in-Some.first.now _ _ _ (to_z-of_z w32 c.args.value fits) c.loop-first.invariant
    (apart c.in-Some.first.now c.loop-first.cuts.items (omega arith) at ∙ ap (λ cs. c.in-Some.first.now ∷ cs) (sym c.pop_front.ensures.rest))
    (omega (arith, ints))
