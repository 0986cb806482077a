use Rattle.std.proofs.Common.{rules, ◌≡◌, ℤ, pos, ◌∷◌, ◌+ℤ◌, length, reverse, w32, w64, to_z, of_z, sym, ap, ◌∙◌, arith, SFits, subst, ◌⊎◌, inl, inr, refl, false}
use Rattle.std.specs.Prelude.{is_some}
use Rattle.std.specs.Prelude.{not}
use Rattle.std.proofs.lemmas.Bool.{false≢true}
use Rattle.std.proofs.lemmas.Int.{ints, to_z-of_z}
use Rattle.jxlm_ma_tree.specs.Tree.{decision, depth}
use Rattle.jxlm_ma_tree.specs.Marked.{IsMarked, marked_shape}
use Rattle.jxlm_ma_tree.specs.Cuts.{tabled}
use Rattle.jxlm_tree.specs.Inner.Chosen.{chosen, hanging}
use Rattle.jxlm_tree.specs.Inner.FlatNodes.{Compiles, IsTable}
use Rattle.jxlm_tree.specs.declared.flat.FlatNode.TheVariants as node
use Rattle.jxlm_tree.proofs.FlatWalks.{chosen-other}
use Rattle.jxlm_tree.proofs.FlatNodes.{fill-end, compiles-table, compiles-fused, side-shared, hanging-other, table-facts, TableFacts}
use Rattle.jxlm_tree.proofs.FlatCasts.{size_of, on_ok, splits-at, fills-left, fills-right, fills-both, side-named, side-split-at, fills-table, no_table, added, on_ok3}
use Rattle.jxlm_ma_tree.proofs.Comparing.{less, not_less}
use Rattle.jxlm_tree.proofs.compile.+compile.Goals.{fill-in-Leaf, fill-in-Decision+else-tested-property, compile_side-in-Leaf, compile_side-in-Decision+else-is_none}
use Rattle.jxlm_tree.proofs.compile.+compile.Goals as goal

pub compile-fill-requires : goal.compile-fill-requires
compile-fill-requires t c =
    let e = ap marked_shape c.in-Decision.is in
    let parts = subst IsMarked c.in-Decision.is c.requires.marked in
    let s = splits-at c.in-Decision.property c.in-Decision.property c.in-Decision.value (marked_shape c.args.tree.now) (marked_shape c.in-Decision.left.value) (marked_shape c.in-Decision.right.value) e refl in
    let facts : TableFacts c.in-Decision.property c.in-Decision.value (marked_shape c.in-Decision.left.value) (marked_shape c.in-Decision.right.value) c.in-Some.found = table-facts c.in-Decision.property c.in-Decision.value (marked_shape c.in-Decision.left.value) (marked_shape c.in-Decision.right.value) c.in-Some.found (sym parts.0 ∙ c.in-Some.is) in
    let order = facts.order in
    let spread = facts.spread in
    let fits_least : SFits w32 c.in-Some.found.least = search rules in
    let fits_greatest : SFits w32 c.in-Some.found.greatest = search rules in
    let empty = ap length c.new-entries.ensures.items in
    (omega arith, (c.requires.marked, (omega arith, (omega (arith, ints), (omega (arith, ints), (omega (arith, ints), omega (arith, ints)))))))

pub compile-add_table-requires : goal.compile-add_table-requires
compile-add_table-requires t c =
    let e = ap marked_shape c.in-Decision.is in
    let s = splits-at c.in-Decision.property c.in-Decision.property c.in-Decision.value (marked_shape c.args.tree.now) (marked_shape c.in-Decision.left.value) (marked_shape c.in-Decision.right.value) e refl in
    let g = (c.in_ok-fill-in-Some.ensures).grows.few in omega arith

pub compile-compile_side-requires : goal.compile-compile_side-requires
compile-compile_side-requires t c =
    let e = ap marked_shape c.in-Decision.is in
    let parts = subst IsMarked c.in-Decision.is c.requires.marked in
    let here : c.deref.result.now ≡ c.in-Decision.left.value = c.deref.ensures in
    let small_here = size_of here in
    let s = splits-at c.in-Decision.property c.in-Decision.property c.in-Decision.value (marked_shape c.args.tree.now) (marked_shape c.in-Decision.left.value) (marked_shape c.in-Decision.right.value) e refl in
    (omega (arith, small_here), (subst IsMarked (sym here) parts.1.0, omega (arith, small_here)))

pub compile-compile_side-requires-in-None : goal.compile-compile_side-requires-in-None
compile-compile_side-requires-in-None t c =
    let e = ap marked_shape c.in-Decision.is in
    let parts = subst IsMarked c.in-Decision.is c.requires.marked in
    let here : c.deref-in-None.result.now ≡ c.in-Decision.right.value = c.deref-in-None.ensures in
    let small_here = size_of here in
    let there : c.deref.result.now ≡ c.in-Decision.left.value = c.deref.ensures in
    let small_there = size_of there in
    let s = splits-at c.in-Decision.property c.in-Decision.property c.in-Decision.value (marked_shape c.args.tree.now) (marked_shape c.in-Decision.left.value) (marked_shape c.in-Decision.right.value) e refl in
    let g = c.in_ok-left-in-None.ensures.grows.few in (omega (arith, small_here, small_there), (subst IsMarked (sym here) parts.1.1, omega (arith, small_here, small_there)))

pub compile-returns-in_ok-fill-in-Some : goal.compile-returns-in_ok-fill-in-Some
compile-returns-in_ok-fill-in-Some t c =
    let e = ap marked_shape c.in-Decision.is in
    let parts = subst IsMarked c.in-Decision.is c.requires.marked in
    let fits_least : SFits w32 c.in-Some.found.least = search rules in
    let fits_greatest : SFits w32 c.in-Some.found.greatest = search rules in
    let filled = fills-table c.in-Decision.property c.in-Some.found.least (c.in-Some.found.greatest +ℤ pos 1) _ _ _ _ _ _ _ _ c.new-entries.ensures.items (omega (arith, ints)) (omega (arith, ints)) e c.in_ok-fill-in-Some.ensures in
    let compiled = compiles-table c.in-Decision.property c.in-Decision.value (marked_shape c.in-Decision.left.value) (marked_shape c.in-Decision.right.value) c.in-Some.found _ _ c.fill.new.entries (sym parts.0 ∙ c.in-Some.is) (omega (arith, ints)) (omega (arith, ints)) filled in
    let cast : Compiles (reverse c.args.nodes.now.items) (node.Table c.in-Decision.property (to_z w32 (of_z w32 c.in-Some.found.least)) c.fill.new.entries ∷ reverse c.fill.new.nodes.items) (length (reverse c.fill.new.nodes.items)) (decision c.in-Decision.property c.in-Decision.value (marked_shape c.in-Decision.left.value) (marked_shape c.in-Decision.right.value)) =
    subst (λ b. Compiles (reverse c.args.nodes.now.items) (node.Table c.in-Decision.property b c.fill.new.entries ∷ reverse c.fill.new.nodes.items) (length (reverse c.fill.new.nodes.items)) (decision c.in-Decision.property c.in-Decision.value (marked_shape c.in-Decision.left.value) (marked_shape c.in-Decision.right.value))) (sym (to_z-of_z w32 c.in-Some.found.least fits_least)) compiled in
    let named = subst (λ p. Compiles (reverse c.args.nodes.now.items) (node.Table p (to_z w32 (of_z w32 c.in-Some.found.least)) c.fill.new.entries ∷ reverse c.fill.new.nodes.items) (length (reverse c.fill.new.nodes.items)) (decision c.in-Decision.property c.in-Decision.value (marked_shape c.in-Decision.left.value) (marked_shape c.in-Decision.right.value))) (sym c.new.ensures) cast in
    added c.add_table.result _ _ _ _ _ _ e named c.add_table.ensures.place c.add_table.ensures.items

pub compile-returns-in_ok-right-in-None : goal.compile-returns-in_ok-right-in-None
compile-returns-in_ok-right-in-None t c =
    let at_left : c.deref.result.now ≡ c.in-Decision.left.value = c.deref.ensures in
    let at_right : c.deref-in-None.result.now ≡ c.in-Decision.right.value = c.deref-in-None.ensures in
    let there = ap (λ m. decision c.in-Decision.property c.in-Decision.value (marked_shape m) (marked_shape c.in-Decision.right.value)) (sym at_left) ∙ ap (λ m. decision c.in-Decision.property c.in-Decision.value (marked_shape c.deref.result.now) (marked_shape m)) (sym at_right) in
    let e = ap marked_shape c.in-Decision.is ∙ there in
    let parts = subst IsMarked c.in-Decision.is c.requires.marked in
    let fits : SFits w32 c.in-Decision.value = search rules in
    let compiled = compiles-fused c.in-Decision.property c.in-Decision.value (marked_shape c.deref.result.now) (marked_shape c.deref-in-None.result.now) c.in_ok-left-in-None.left c.in_ok-right-in-None.right _ _ _ (no_table _ c.in-Decision.table (parts.0 ∙ ap tabled there) c.in-None.is) c.in_ok-left-in-None.ensures c.in_ok-right-in-None.ensures in
    let cast : Compiles (reverse c.args.nodes.now.items) (node.Fused c.in-Decision.property (to_z w32 (of_z w32 c.in-Decision.value)) c.in_ok-left-in-None.left c.in_ok-right-in-None.right ∷ reverse c.compile_side-in-None.new.nodes.items) (length (reverse c.compile_side-in-None.new.nodes.items)) (decision c.in-Decision.property c.in-Decision.value (marked_shape c.deref.result.now) (marked_shape c.deref-in-None.result.now)) =
    subst (λ b. Compiles (reverse c.args.nodes.now.items) (node.Fused c.in-Decision.property b c.in_ok-left-in-None.left c.in_ok-right-in-None.right ∷ reverse c.compile_side-in-None.new.nodes.items) (length (reverse c.compile_side-in-None.new.nodes.items)) (decision c.in-Decision.property c.in-Decision.value (marked_shape c.deref.result.now) (marked_shape c.deref-in-None.result.now))) (sym (to_z-of_z w32 c.in-Decision.value fits)) compiled in
    let named = subst (λ p. Compiles (reverse c.args.nodes.now.items) (node.Fused p (to_z w32 (of_z w32 c.in-Decision.value)) c.in_ok-left-in-None.left c.in_ok-right-in-None.right ∷ reverse c.compile_side-in-None.new.nodes.items) (length (reverse c.compile_side-in-None.new.nodes.items)) (decision c.in-Decision.property c.in-Decision.value (marked_shape c.deref.result.now) (marked_shape c.deref-in-None.result.now))) (sym c.new-in-None.ensures) cast in
    added c.add_fused.result _ _ _ _ _ _ e named c.add_fused.ensures.place c.add_fused.ensures.items

pub compile_side-compile-requires : goal.compile_side-compile-requires
compile_side-compile-requires t c =
    let e = ap marked_shape c.in-Decision.is in
    let parts = subst IsMarked c.in-Decision.is c.requires.marked in
    let here : c.deref.result.now ≡ c.in-Decision.left.value = c.deref.ensures in
    let small_here = size_of here in
    let s = splits-at c.in-Decision.property c.in-Decision.property c.in-Decision.value (marked_shape c.args.tree.now) (marked_shape c.in-Decision.left.value) (marked_shape c.in-Decision.right.value) e refl in
    (omega (arith, small_here), (subst IsMarked (sym here) parts.1.0, omega (arith, small_here)))

pub compile_side-compile-requires-then-is_none : goal.compile_side-compile-requires-then-is_none
compile_side-compile-requires-then-is_none t c =
    let e = ap marked_shape c.in-Decision.is in
    let parts = subst IsMarked c.in-Decision.is c.requires.marked in
    let here : c.deref-then-is_none.result.now ≡ c.in-Decision.right.value = c.deref-then-is_none.ensures in
    let small_here = size_of here in
    let there : c.deref.result.now ≡ c.in-Decision.left.value = c.deref.ensures in
    let small_there = size_of there in
    let s = splits-at c.in-Decision.property c.in-Decision.property c.in-Decision.value (marked_shape c.args.tree.now) (marked_shape c.in-Decision.left.value) (marked_shape c.in-Decision.right.value) e refl in
    let g = c.in_ok-above-in-Decision.ensures.grows.few in (omega (arith, small_here, small_there), (subst IsMarked (sym here) parts.1.1, omega (arith, small_here, small_there)))

pub compile_side-compile-requires-2 : goal.compile_side-compile-requires-2
compile_side-compile-requires-2 t c =
    (omega arith, (c.requires.marked, omega arith))

pub compile_side-returns : goal.compile_side-returns
compile_side-returns t c =
    let kind : (depth (marked_shape c.args.tree.now) ≡ 0) ⊎ IsTable (marked_shape c.args.tree.now) = elim c.match-tree.branch [
      | compile_side-in-Leaf w ↦ inl (ap depth (ap marked_shape w.in-Leaf.is))
      | compile_side-in-Decision+else-is_none w ↦ inr (ap (λ t. is_some (tabled (marked_shape t))) w.in-Decision.is ∙ ap is_some (sym (subst IsMarked w.in-Decision.is c.requires.marked).0) ∙ w.is_none.ensures ∙ ap not w.if-is_none.false)
    ] in
    side-named _ _ _ _ _ _ _ _ _ c.new-2.ensures (side-shared c.args.fallback (marked_shape c.args.tree.now) c.in_ok-place.place _ _ kind c.in_ok-place.ensures)

pub fill-fill-requires : goal.fill-fill-requires
fill-fill-requires t c =
    let e = ap marked_shape c.in-Decision.is in
    let parts = subst IsMarked c.in-Decision.is c.requires.marked in
    let here : c.deref.result.now ≡ c.in-Decision.left.value = c.deref.ensures in
    let small_here = size_of here in
    let hangs_here = ap (λ m. hanging c.args.property (marked_shape m)) here in
    let s = splits-at c.args.property c.in-Decision.tested c.in-Decision.value (marked_shape c.args.tree.now) (marked_shape c.in-Decision.left.value) (marked_shape c.in-Decision.right.value) e c.if-tested-property.true in
    let fits : SFits w32 c.in-Decision.value = search rules in
    (omega (arith, small_here, hangs_here), (subst IsMarked (sym here) parts.1.0, (omega (arith, small_here, hangs_here), (omega (arith, ints), (omega (arith, ints), (omega (arith, ints), omega (arith, ints)))))))

pub fill-returns-then-cut-low : goal.fill-returns-then-cut-low
fill-returns-then-cut-low t c =
    let at_left : c.deref.result.now ≡ c.in-Decision.left.value = c.deref.ensures in
    let e = ap marked_shape c.in-Decision.is ∙ ap (λ m. decision c.in-Decision.tested c.in-Decision.value (marked_shape m) (marked_shape c.in-Decision.right.value)) (sym at_left) in
    let fits : SFits w32 c.in-Decision.value = search rules in
    let below_low = less (to_z w64 (of_z w64 c.from-cut.result)) (to_z w64 (of_z w64 c.args.low)) c.if-cut-low.true in
    on_ok c.fill.result _ _ (λ h. fills-left _ _ _ _ _ _ _ _ _ _ _ _ _ _ e c.if-tested-property.true (to_z-of_z w64 c.args.low c.ranges.low) (to_z-of_z w64 c.args.high c.ranges.high) (omega (arith, ints)) h) c.fill.ensures

pub fill-fill-requires-then-cut-high : goal.fill-fill-requires-then-cut-high
fill-fill-requires-then-cut-high t c =
    let e = ap marked_shape c.in-Decision.is in
    let parts = subst IsMarked c.in-Decision.is c.requires.marked in
    let here : c.deref-then-cut-high.result.now ≡ c.in-Decision.right.value = c.deref-then-cut-high.ensures in
    let small_here = size_of here in
    let hangs_here = ap (λ m. hanging c.args.property (marked_shape m)) here in
    let s = splits-at c.args.property c.in-Decision.tested c.in-Decision.value (marked_shape c.args.tree.now) (marked_shape c.in-Decision.left.value) (marked_shape c.in-Decision.right.value) e c.if-tested-property.true in
    let fits : SFits w32 c.in-Decision.value = search rules in
    let below_high = less (to_z w64 (of_z w64 c.from-cut.result)) (to_z w64 (of_z w64 c.args.high)) c.if-cut-high.true in
    let from_low = not_less (to_z w64 (of_z w64 c.from-cut.result)) (to_z w64 (of_z w64 c.args.low)) c.if-cut-low.false in
    (omega (arith, small_here, hangs_here), (subst IsMarked (sym here) parts.1.1, (omega (arith, small_here, hangs_here), (omega (arith, ints), (omega (arith, ints), (omega (arith, ints), omega (arith, ints)))))))

pub fill-fill-requires-then-cut-high-2 : goal.fill-fill-requires-then-cut-high-2
fill-fill-requires-then-cut-high-2 t c =
    let e = ap marked_shape c.in-Decision.is in
    let parts = subst IsMarked c.in-Decision.is c.requires.marked in
    let here : c.deref-then-cut-high-2.result.now ≡ c.in-Decision.left.value = c.deref-then-cut-high-2.ensures in
    let small_here = size_of here in
    let hangs_here = ap (λ m. hanging c.args.property (marked_shape m)) here in
    let there : c.deref-then-cut-high.result.now ≡ c.in-Decision.right.value = c.deref-then-cut-high.ensures in
    let small_there = size_of there in
    let hangs_there = ap (λ m. hanging c.args.property (marked_shape m)) there in
    let s = splits-at c.args.property c.in-Decision.tested c.in-Decision.value (marked_shape c.args.tree.now) (marked_shape c.in-Decision.left.value) (marked_shape c.in-Decision.right.value) e c.if-tested-property.true in
    let fits : SFits w32 c.in-Decision.value = search rules in
    let below_high = less (to_z w64 (of_z w64 c.from-cut.result)) (to_z w64 (of_z w64 c.args.high)) c.if-cut-high.true in
    let from_low = not_less (to_z w64 (of_z w64 c.from-cut.result)) (to_z w64 (of_z w64 c.args.low)) c.if-cut-low.false in
    let g = c.in_ok-fill-in-Decision.ensures.grows.few in
    let n = c.in_ok-fill-in-Decision.ensures.longer in
    (omega (arith, small_here, hangs_here, small_there, hangs_there), (subst IsMarked (sym here) parts.1.0, (omega (arith, small_here, hangs_here, small_there, hangs_there), (omega (arith, ints), (omega (arith, ints), (omega (arith, ints), omega (arith, ints)))))))

pub fill-returns-then-cut-high : goal.fill-returns-then-cut-high
fill-returns-then-cut-high t c =
    let at_left : c.deref-then-cut-high-2.result.now ≡ c.in-Decision.left.value = c.deref-then-cut-high-2.ensures in
    let at_right : c.deref-then-cut-high.result.now ≡ c.in-Decision.right.value = c.deref-then-cut-high.ensures in
    let e = ap marked_shape c.in-Decision.is ∙ ap (λ m. decision c.in-Decision.tested c.in-Decision.value (marked_shape m) (marked_shape c.in-Decision.right.value)) (sym at_left) ∙ ap (λ m. decision c.in-Decision.tested c.in-Decision.value (marked_shape c.deref-then-cut-high-2.result.now) (marked_shape m)) (sym at_right) in
    let fits : SFits w32 c.in-Decision.value = search rules in
    let below_high = less (to_z w64 (of_z w64 c.from-cut.result)) (to_z w64 (of_z w64 c.args.high)) c.if-cut-high.true in
    let from_low = not_less (to_z w64 (of_z w64 c.from-cut.result)) (to_z w64 (of_z w64 c.args.low)) c.if-cut-low.false in
    on_ok c.fill-then-cut-high-2.result _ _ (λ h. fills-both _ _ _ _ _ _ _ _ _ _ _ _ _ _ _ _ _ _ e c.if-tested-property.true (to_z-of_z w64 c.args.low c.ranges.low) (omega (arith, ints)) (omega (arith, ints)) (to_z-of_z w64 c.args.high c.ranges.high) (omega (arith, ints)) (omega (arith, ints)) c.in_ok-fill-in-Decision.ensures h) c.fill-then-cut-high-2.ensures

pub fill-fill-requires-then-tested-property : goal.fill-fill-requires-then-tested-property
fill-fill-requires-then-tested-property t c =
    let e = ap marked_shape c.in-Decision.is in
    let parts = subst IsMarked c.in-Decision.is c.requires.marked in
    let here : c.deref-then-tested-property.result.now ≡ c.in-Decision.right.value = c.deref-then-tested-property.ensures in
    let small_here = size_of here in
    let hangs_here = ap (λ m. hanging c.args.property (marked_shape m)) here in
    let s = splits-at c.args.property c.in-Decision.tested c.in-Decision.value (marked_shape c.args.tree.now) (marked_shape c.in-Decision.left.value) (marked_shape c.in-Decision.right.value) e c.if-tested-property.true in
    let fits : SFits w32 c.in-Decision.value = search rules in
    let from_low = not_less (to_z w64 (of_z w64 c.from-cut.result)) (to_z w64 (of_z w64 c.args.low)) c.if-cut-low.false in
    let from_high = not_less (to_z w64 (of_z w64 c.from-cut.result)) (to_z w64 (of_z w64 c.args.high)) c.if-cut-high.false in
    (omega (arith, small_here, hangs_here), (subst IsMarked (sym here) parts.1.1, (omega (arith, small_here, hangs_here), (omega (arith, ints), (omega (arith, ints), (omega (arith, ints), omega (arith, ints)))))))

pub fill-returns-then-tested-property : goal.fill-returns-then-tested-property
fill-returns-then-tested-property t c =
    let at_right : c.deref-then-tested-property.result.now ≡ c.in-Decision.right.value = c.deref-then-tested-property.ensures in
    let e = ap marked_shape c.in-Decision.is ∙ ap (λ m. decision c.in-Decision.tested c.in-Decision.value (marked_shape c.in-Decision.left.value) (marked_shape m)) (sym at_right) in
    let fits : SFits w32 c.in-Decision.value = search rules in
    let from_high = not_less (to_z w64 (of_z w64 c.from-cut.result)) (to_z w64 (of_z w64 c.args.high)) c.if-cut-high.false in
    on_ok c.fill-then-tested-property.result _ _ (λ h. fills-right _ _ _ _ _ _ _ _ _ _ _ _ _ _ e c.if-tested-property.true (to_z-of_z w64 c.args.low c.ranges.low) (to_z-of_z w64 c.args.high c.ranges.high) (omega (arith, ints)) h) c.fill-then-tested-property.ensures

pub fill-compile-requires : goal.fill-compile-requires
fill-compile-requires t c =
    let other : (x : ℤ) → chosen c.args.property x (marked_shape c.args.tree.now) ≡ (marked_shape c.args.tree.now) = elim c.match-tree.branch [
      | fill-in-Leaf w ↦ λ x. ap (chosen c.args.property x) (ap marked_shape w.in-Leaf.is) ∙ sym (ap marked_shape w.in-Leaf.is)
      | fill-in-Decision+else-tested-property w ↦ λ x.
          ap (chosen c.args.property x) (ap marked_shape w.in-Decision.is)
          ∙ chosen-other c.args.property w.in-Decision.tested x w.in-Decision.value _ _ w.if-tested-property.false
          ∙ sym (ap marked_shape w.in-Decision.is)
    ] in
    let h = hanging-other c.args.property (marked_shape c.args.tree.now) other in
    (omega arith, (c.requires.marked, omega arith))

pub fill-returns : goal.fill-returns
fill-returns t c =
    let other : (x : ℤ) → chosen c.args.property x (marked_shape c.args.tree.now) ≡ (marked_shape c.args.tree.now) = elim c.match-tree.branch [
      | fill-in-Leaf w ↦ λ x. ap (chosen c.args.property x) (ap marked_shape w.in-Leaf.is) ∙ sym (ap marked_shape w.in-Leaf.is)
      | fill-in-Decision+else-tested-property w ↦ λ x.
          ap (chosen c.args.property x) (ap marked_shape w.in-Decision.is)
          ∙ chosen-other c.args.property w.in-Decision.tested x w.in-Decision.value _ _ w.if-tested-property.false
          ∙ sym (ap marked_shape w.in-Decision.is)
    ] in
    on_ok3 c.extend.result _ _ _ _
    (λ longer kept news. fill-end c.args.property c.args.low c.args.high (marked_shape c.args.tree.now) c.in_ok-place.place _ _ _ _ other c.requires.order c.in_ok-place.ensures (omega (arith, ints, longer)) kept news)
    c.extend.ensures.longer c.extend.ensures.kept c.extend.ensures.news

pub compile_side-returns-then-is_none : goal.compile_side-returns-then-is_none
compile_side-returns-then-is_none t c =
    let at_left : c.deref.result.now ≡ c.in-Decision.left.value = c.deref.ensures in
    let at_right : c.deref-then-is_none.result.now ≡ c.in-Decision.right.value = c.deref-then-is_none.ensures in
    let there = ap (λ m. decision c.in-Decision.property c.in-Decision.value (marked_shape m) (marked_shape c.in-Decision.right.value)) (sym at_left) ∙ ap (λ m. decision c.in-Decision.property c.in-Decision.value (marked_shape c.deref.result.now) (marked_shape m)) (sym at_right) in
    let e = ap marked_shape c.in-Decision.is ∙ there in
    let is : is_some c.in-Decision.table ≡ false = c.is_none.ensures ∙ ap not c.if-is_none.true in
    let none : IsTable (decision c.in-Decision.property c.in-Decision.value (marked_shape c.deref.result.now) (marked_shape c.deref-then-is_none.result.now)) → ⊥ =
    λ h. false≢true (sym is ∙ ap is_some ((subst IsMarked c.in-Decision.is c.requires.marked).0 ∙ ap tabled there) ∙ h) in
    let fits : SFits w32 c.in-Decision.value = search rules in
    side-named _ _ _ _ _ _ _ _ _ c.new.ensures (side-split-at c.args.fallback c.in-Decision.property c.in-Decision.value _ _ _ _ _ _ _ _ _ e (to_z-of_z w32 c.in-Decision.value fits) none c.in_ok-above-in-Decision.ensures c.in_ok-rest-in-Decision.ensures)
