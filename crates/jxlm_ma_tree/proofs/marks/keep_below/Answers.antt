use Rattle.std.proofs.Common.{◌-◌, ◌∷◌, ◌++◌, [], refl, sym, ap, ◌∙◌, arith, rules, w32, to_z, of_z, SFits}
use Rattle.std.specs.Prelude.{slice_index_or, take}
use Rattle.std.proofs.lemmas.Int.{ints, to_z-of_z}
use Rattle.jxlm_ma_tree.proofs.Comparing.{not_less}
use Rattle.jxlm_ma_tree.proofs.CutLists.{apart, below-step}
use Rattle.jxlm_ma_tree.proofs.marks.keep_below.Goals as goal

pub loop-last-preserved : goal.loop-last-preserved
loop-last-preserved c =
    let fits : SFits w32 c.args.value = search rules in
    let at = rw c.in-Some.is at c.back.ensures.lookup in
    let there = rw c.in-Some.is at c.back.ensures.variant in
    let long = c.loop-last.cuts.ok.0 in
    let some = there.0 refl in
    let from_value = not_less (to_z w32 (of_z w32 c.in-Some.last.now)) (to_z w32 (of_z w32 c.args.value)) c.if-last-value.false in
    let last_fits : SFits w32 c.in-Some.last.now = search rules in
    let parted = apart c.in-Some.last.now c.loop-last.cuts.items (omega arith) (at ∙ ap (λ n. slice_index_or c.loop-last.cuts.items (n - 1) c.in-Some.last.now) long) in
    below-step c.args.value _ c.in-Some.last.now _ _ _ (to_z-of_z w32 c.args.value fits) c.loop-last.invariant
    (parted ∙ ap (λ l. l ++ c.in-Some.last.now ∷ []) (ap (λ n. take (n - 1) c.loop-last.cuts.items) (sym long) ∙ sym c.pop_back.ensures.rest))
    (omega (arith, ints))
