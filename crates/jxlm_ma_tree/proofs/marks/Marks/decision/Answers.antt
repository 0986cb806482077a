use Rattle.std.proofs.Common.{rules, ◌≡◌, ◌++◌, ◌∷◌, ◌<ℤ◌, ◌+ℤ◌, pos, sym, ap, ◌∙◌, subst, arith, w32, to_z, of_z, SFits}
use Rattle.std.proofs.lemmas.Int.{ints, to_z-of_z}
use Rattle.jxlm_ma_tree.specs.Tree.{decision}
use Rattle.jxlm_ma_tree.specs.Inner.Ascending.{Ascends}
use Rattle.jxlm_ma_tree.specs.Marked.{marked_shape, root_cuts}
use Rattle.jxlm_ma_tree.specs.Cuts.{cuts, greatest, least}
use Rattle.jxlm_ma_tree.proofs.Comparing.{less, not_less}
use Rattle.jxlm_ma_tree.proofs.CutLists.{cuts-of-decision, cuts-of-last, decision-marked, root-ascends}
use Rattle.jxlm_ma_tree.proofs.marks.Marks.decision.Goals.{then-value-lt2147483647+in_ok-cuts, else-value-lt2147483647}
use Rattle.jxlm_ma_tree.proofs.marks.Marks.decision.Goals as goal

pub worth-table-requires : goal.worth-table-requires
worth-table-requires c =
    let fits : SFits w32 c.args.value = search rules in
    let same = to_z-of_z w32 c.args.value fits in
    let below : c.below_on-below.result.items ≡ cuts c.args.property least c.args.value (marked_shape c.args.right.tree) =
    subst (λ v. c.below_on-below.result.items ≡ cuts c.args.property least v (marked_shape c.args.right.tree)) same c.below_on-below.ensures in
    let over : c.args.value <ℤ greatest → c.above_on-above.result.items ≡ cuts c.args.property (c.args.value +ℤ pos 1) greatest (marked_shape c.args.left.tree) =
    subst (λ v. v <ℤ greatest → c.above_on-above.result.items ≡ cuts c.args.property (v +ℤ pos 1) greatest (marked_shape c.args.left.tree)) same c.above_on-above.ensures in
    let are : c.if-value-lt2147483647.cuts.items ≡ root_cuts (decision c.args.property c.args.value (marked_shape c.args.left.tree) (marked_shape c.args.right.tree)) =
    elim c.if-value-lt2147483647.branch [
      | then-value-lt2147483647+in_ok-cuts w ↦
          let m = less (to_z w32 (of_z w32 c.args.value)) greatest w.if-value-lt2147483647.true in
          let k : c.args.value <ℤ greatest = omega (arith, ints) in
          ap (λ q. q.items) w.cuts-is ∙ w.in_ok-cuts.ensures ∙ ap (λ v. c.below_on-below.result.items ++ v ∷ c.above_on-above.result.items) same
          ∙ cuts-of-decision c.args.property c.args.value (marked_shape c.args.left.tree) (marked_shape c.args.right.tree) _ _ (omega (arith, ints)) k below (over k)
      | else-value-lt2147483647 w ↦
          let k = not_less (to_z w32 (of_z w32 c.args.value)) greatest w.if-value-lt2147483647.false in
          ap (λ q. q.items) w.cuts-is
          ∙ cuts-of-last c.args.property c.args.value (marked_shape c.args.left.tree) (marked_shape c.args.right.tree) _ (omega (arith, ints)) below
    ] in
    subst Ascends (sym are) (root-ascends (decision c.args.property c.args.value (marked_shape c.args.left.tree) (marked_shape c.args.right.tree)))

pub returns-clause-marks : goal.returns-clause-marks
returns-clause-marks c =
    let fits : SFits w32 c.args.value = search rules in
    let same = to_z-of_z w32 c.args.value fits in
    let below : c.below_on-below.result.items ≡ cuts c.args.property least c.args.value (marked_shape c.args.right.tree) =
    subst (λ v. c.below_on-below.result.items ≡ cuts c.args.property least v (marked_shape c.args.right.tree)) same c.below_on-below.ensures in
    let over : c.args.value <ℤ greatest → c.above_on-above.result.items ≡ cuts c.args.property (c.args.value +ℤ pos 1) greatest (marked_shape c.args.left.tree) =
    subst (λ v. v <ℤ greatest → c.above_on-above.result.items ≡ cuts c.args.property (v +ℤ pos 1) greatest (marked_shape c.args.left.tree)) same c.above_on-above.ensures in
    let are : c.if-value-lt2147483647.cuts.items ≡ root_cuts (decision c.args.property c.args.value (marked_shape c.args.left.tree) (marked_shape c.args.right.tree)) =
    elim c.if-value-lt2147483647.branch [
      | then-value-lt2147483647+in_ok-cuts w ↦
          let m = less (to_z w32 (of_z w32 c.args.value)) greatest w.if-value-lt2147483647.true in
          let k : c.args.value <ℤ greatest = omega (arith, ints) in
          ap (λ q. q.items) w.cuts-is ∙ w.in_ok-cuts.ensures ∙ ap (λ v. c.below_on-below.result.items ++ v ∷ c.above_on-above.result.items) same
          ∙ cuts-of-decision c.args.property c.args.value (marked_shape c.args.left.tree) (marked_shape c.args.right.tree) _ _ (omega (arith, ints)) k below (over k)
      | else-value-lt2147483647 w ↦
          let k = not_less (to_z w32 (of_z w32 c.args.value)) greatest w.if-value-lt2147483647.false in
          ap (λ q. q.items) w.cuts-is
          ∙ cuts-of-last c.args.property c.args.value (marked_shape c.args.left.tree) (marked_shape c.args.right.tree) _ (omega (arith, ints)) below
    ] in
    let m = decision-marked c.args.property c.args.value (to_z w32 (of_z w32 c.args.value)) c.worth-table.result c.if-value-lt2147483647.cuts.items
    c.args.left.tree c.in_ok-left.left.value c.args.right.tree c.in_ok-right.right.value same c.in_ok-left.ensures.ok c.in_ok-right.ensures.ok c.requires.left.marked c.requires.right.marked are c.worth-table.ensures in
    record { marked = m.0; cuts = m.1 }
