use Rattle.std.proofs.Common.{rules, ◌≡◌, ◌∙◌, ℕ, ℤ, Bool, SFits, of_z, ap, min, sym, subst, to_z, true, false, w32}
use Rattle.std.proofs.lemmas.Int.{to_z-of_z}
use Rattle.std.specs.Prelude.{int_lt}
use Rattle.jxlm_ma_tree.specs.Tree.{Shape, decision}
use Rattle.jxlm_ma_tree.specs.declared.leaf.Leaf.{Leaf}
use Rattle.jxlm_ma_tree.specs.Pruned.{EndsAt}
use Rattle.jxlm_ma_tree.specs.declared.marks.Known.{Known}
use Rattle.jxlm_ma_tree.specs.declared.tree.MaTreeNode.{MaTreeNode}
use Rattle.jxlm_ma_tree.specs.TreeShape.{shape_of}
use Rattle.jxlm_ma_tree.proofs.EndingAlike.{ends-left, ends-open, ends-right}
use Rattle.jxlm_ma_tree.proofs.alike.+channels_alike.Goals.{in-None, in-Some+then-x-value, in-Some+else-x-value}
use Rattle.jxlm_ma_tree.proofs.alike.+channels_alike.Goals as goal

-- a signed number, read back from its bits
read_back : (v x : ℤ) (b : Bool) → SFits w32 x → int_lt v (to_z w32 (of_z w32 x)) ≡ b → int_lt v x ≡ b
read_back v x b fits h = subst (λ (z : ℤ). int_lt v z ≡ b) (to_z-of_z w32 x fits) h

below : (pins : Known) (n : ℕ) (s t : MaTreeNode) → s ≡ t → EndsAt pins (shape_of s) n → EndsAt pins (shape_of t) n
below pins n s t same h = subst (λ (u : MaTreeNode). EndsAt pins (shape_of u) n) same h

of_both : (pins : Known) (t u : Shape Leaf) (n m : ℕ) → t ≡ u → n ≡ m → EndsAt pins u m → EndsAt pins t n
of_both pins t u n m shape count h = subst (λ (s : Shape Leaf). EndsAt pins s n) (sym shape) (subst (EndsAt pins u) (sym count) h)

pub returns-after-known_value-clause-ends : goal.returns-after-known_value-clause-ends
returns-after-known_value-clause-ends t c =
    let steady = c.decision_alike-here.ensures.steady in
    let ends = c.decision_alike-here.ensures.ends in
    let known = sym c.known_value.ensures in
    let p = c.in-Decision.property in
    let v = to_z w32 (of_z w32 c.in-Decision.value) in
    let a = shape_of c.in-Decision.left.value in
    let b = shape_of c.in-Decision.right.value in
    let pins = c.args.known.now in
    let fits : SFits w32 c.in-Decision.value = search rules in
    let shape : shape_of c.args.tree.now ≡ decision p v a b = ap shape_of c.in-Decision.is ∙ ap (λ (z : ℤ). decision p z a b) (sym (to_z-of_z w32 c.in-Decision.value fits)) in
    elim c.match-known_value.branch [
      | in-None w ↦ of_both pins _ _ _ _ shape (c.min.ensures ∙ ap (λ (n : ℕ). min c.decision_alike-here.result n) (w.below-is ∙ w.min-below.ensures))
          (ends-open pins p v a b _ _ _ steady ends (known ∙ w.in-None.is) (below pins _ _ _ w.deref.ensures w.channels_alike.ensures.ends) (below pins _ _ _ w.deref-in-None.ensures w.channels_alike-in-None.ensures.ends))
      | in-Some+then-x-value w ↦ of_both pins _ _ _ _ shape (c.min.ensures ∙ ap (λ (n : ℕ). min c.decision_alike-here.result n) w.below-is)
          (ends-left pins p v w.in-Some.x a b _ _ steady ends (known ∙ w.in-Some.is) (read_back v w.in-Some.x true (search rules) w.if-x-value.true)
          (below pins _ _ _ w.deref-then-x-value.ensures w.channels_alike-then-x-value.ensures.ends))
      | in-Some+else-x-value w ↦ of_both pins _ _ _ _ shape (c.min.ensures ∙ ap (λ (n : ℕ). min c.decision_alike-here.result n) w.below-is)
          (ends-right pins p v w.in-Some.x a b _ _ steady ends (known ∙ w.in-Some.is) (read_back v w.in-Some.x false (search rules) w.if-x-value.false)
          (below pins _ _ _ w.deref-else-x-value.ensures w.channels_alike-else-x-value.ensures.ends))
    ]
