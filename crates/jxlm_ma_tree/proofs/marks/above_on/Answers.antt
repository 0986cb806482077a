use Rattle.std.proofs.Common.{rules, ◌≡◌, ◌+ℤ◌, ◌<ℤ◌, ◌≤ℤ◌, pos, ap, sym, subst, ◌∙◌, arith, w32, SFits}
use Rattle.std.proofs.lemmas.Int.{ints, to_z-of_z}
use Rattle.jxlm_ma_tree.specs.Inner.Ascending.{LeavesAbove}
use Rattle.jxlm_ma_tree.specs.Marked.{marked_shape}
use Rattle.jxlm_ma_tree.specs.Cuts.{cuts, least, greatest}
use Rattle.jxlm_ma_tree.proofs.CutLists.{From, cuts-asked, cuts-split, cuts-unasked, cuts-within}
use Rattle.jxlm_ma_tree.proofs.CutLists.{Each-map}
use Rattle.jxlm_ma_tree.proofs.marks.above_on.Goals.{then-not-asks_for, else-not-asks_for}
use Rattle.jxlm_ma_tree.proofs.marks.above_on.Goals as goal

pub returns : goal.returns
returns c = λ below.
    let fits : SFits w32 c.args.value = search rules in
    let whole : c.if-not-asks_for.cuts.items ≡ cuts c.args.property least greatest (marked_shape c.args.tree.now) =
    elim c.if-not-asks_for.branch [
      | then-not-asks_for w ↦ ap (λ q. q.items) w.cuts-is ∙ w.clear.ensures.items ∙ sym (cuts-unasked c.args.property least greatest (marked_shape c.args.tree.now) (sym c.asks_for.ensures ∙ w.if-not-asks_for.true))
      | else-not-asks_for w ↦ ap (λ q. q.items) w.cuts-is ∙ c.requires ∙ sym (cuts-asked c.args.property (marked_shape c.args.tree.now) (sym c.asks_for.ensures ∙ w.if-not-asks_for.false))
    ] in
    let own : LeavesAbove c.args.value c.if-not-asks_for.cuts.items c.keep_above.new.cuts.items = subst (λ v. LeavesAbove v c.if-not-asks_for.cuts.items c.keep_above.new.cuts.items) (to_z-of_z w32 c.args.value fits) c.keep_above.ensures in
    own (cuts c.args.property least (c.args.value +ℤ pos 1) (marked_shape c.args.tree.now)) (cuts c.args.property (c.args.value +ℤ pos 1) greatest (marked_shape c.args.tree.now))
    (whole ∙ cuts-split c.args.property least (c.args.value +ℤ pos 1) greatest (marked_shape c.args.tree.now) (omega (arith, ints)) (omega (arith, ints)))
    (Each-map (From least (c.args.value +ℤ pos 1)) (λ v. v ≤ℤ c.args.value) (λ v h. let k = h.1 in omega (arith, ints)) (cuts c.args.property least (c.args.value +ℤ pos 1) (marked_shape c.args.tree.now)) (cuts-within c.args.property least (c.args.value +ℤ pos 1) (marked_shape c.args.tree.now)))
    (Each-map (From (c.args.value +ℤ pos 1) greatest) (λ v. c.args.value <ℤ v) (λ v h. let k = h.0 in omega (arith, ints)) (cuts c.args.property (c.args.value +ℤ pos 1) greatest (marked_shape c.args.tree.now)) (cuts-within c.args.property (c.args.value +ℤ pos 1) greatest (marked_shape c.args.tree.now)))
