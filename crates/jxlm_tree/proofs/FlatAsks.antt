-- What the walks of a compiled tree ask for.
use Rattle.std.proofs.Common.{◌≡◌, ℕ, ◌+◌, ◌-◌, ◌*◌, ◌/◌, ◌<◌, ◌≤◌, ℤ, Bool, true, false, ◌||◌, eqb, ltb, List, reverse, refl, sym, ap, ◌∙◌, subst, arith, inl, inr, ◌⊎◌}
use Rattle.std.proofs.lemmas.Bool.{cases_lt, false≢true}
use Rattle.std.proofs.lemmas.Bool.Decides.{nat_tests, eqb_tells}
use Rattle.jxlm_tree.specs.FlatTree.{NamesEarlier, flat_tree, leaf_reached, needs_weights}
use Rattle.jxlm_tree.specs.ShortTrees.{Fits}
use Rattle.jxlm_tree.specs.Inner.FlatShapes.{Lacks}
use Rattle.jxlm_ma_tree.specs.Tree.{Shape, leaf, decision}
use Rattle.jxlm_tree.specs.Inner.Compiled.{IsCompiled, known_at}
use Rattle.jxlm_tree.specs.Inner.FlatNodes.{alike, channels_of, corrects, is_error, no_leaf, of_channel, reached}
use Rattle.jxlm_tree.specs.declared.flat.FlatNode.{FlatNode}
use Rattle.jxlm_ma_tree.specs.declared.leaf.Leaf.{Leaf}
use Rattle.jxlm_predictor.specs.declared.predictor.Predictor.TheVariants.{SelfCorrecting}
use Rattle.jxlm_tree.proofs.FlatChannels.{channels-bound, channels-other, not_past, not_zero, sees_no_more, unknown-few}
use Rattle.jxlm_tree.proofs.FlatLooks.{all-of}
use Rattle.jxlm_tree.proofs.FlatNeeds.{or-left, or-right, sees_none, spares}
use Rattle.jxlm_tree.proofs.FlatSteps.{walk-pruned}
use Rattle.jxlm_tree.proofs.FlatWalks.{pruned-lacks, pruned_known-lacks}
use Rattle.jxlm_predictor.specs.Predictions.{is_self_correcting}

-- a property of at most n earlier channels
pub within : (k n : ℕ) → channels_of k ≤ n → k < 16 + 4 * n
within k n h = either (cases_lt k 16) where
  either : (k < 16) ⊎ (16 ≤ k) → k < 16 + 4 * n
  either (inl own) = omega arith
  either (inr of_earlier) = let is : ltb k 16 ≡ false = grind (arith, nat_tests) in let few : (k - 16) / 4 + 1 ≤ n = rw is at h in omega (arith, few)

module _ (t : Shape Leaf) (channel stream earlier : ℕ) (nodes : List FlatNode) (root : ℕ) (needs : Bool) (named : ℕ) (c : IsCompiled t (known_at channel stream earlier) nodes root needs named) where
  -- the leaf by properties of 32 bits is the one that the nodes lead to
  led : (f : ℕ → ℤ) → Fits f → leaf_reached (flat_tree t channel stream earlier) f ≡ (reached (reverse nodes) root (λ i. alike f)).leaf
  led f fits = sym (c.serves.leads (λ i. alike f) f (λ i. fits) (all-of f (reverse nodes) root) ∙ walk-pruned t channel stream earlier f)

  no_self_correcting : (l : Leaf) → is_self_correcting l.predictor ≡ false → l.predictor ≡ SelfCorrecting → ⊥
  no_self_correcting l h e = let is = ap is_self_correcting e in cc

  pub goes_without : needs ≡ false → (f g : ℕ → ℤ) → Fits f → Fits g → ((k : ℕ) → (k ≡ 15 → ⊥) → f k ≡ g k) →
      (leaf_reached (flat_tree t channel stream earlier) f ≡ leaf_reached (flat_tree t channel stream earlier) g) × ((leaf_reached (flat_tree t channel stream earlier) f).predictor ≡ SelfCorrecting → ⊥)
  goes_without none f g fits fits' same =
      let spared = spares nodes root (sym c.needs_is ∙ none) in (
        led f fits ∙ spared.same f g same ∙ sym (led g fits'),
        no_self_correcting (leaf_reached (flat_tree t channel stream earlier) f) (subst (λ (l : Leaf). is_self_correcting l.predictor ≡ false) (sym (led f fits)) (spared.leaf (λ i. alike f))),
      )

  pub reads_below : (f g : ℕ → ℤ) → Fits f → Fits g → ((k : ℕ) → k < 16 + 4 * named → f k ≡ g k) → leaf_reached (flat_tree t channel stream earlier) f ≡ leaf_reached (flat_tree t channel stream earlier) g
  reads_below f g fits fits' same =
      led f fits
      ∙ sees_no_more nodes root f g (λ k few. same k (within k named (subst (λ n. channels_of k ≤ n) (sym c.named_is) few)))
      ∙ sym (led g fits')

  pub there : named ≤ earlier
  there =
      let p : ℕ → Bool = λ k. ltb earlier (channels_of k) in
      let bound = channels-bound earlier nodes
      (c.keeps.keeps p no_leaf (not_past earlier 0 (omega arith)) (pruned_known-lacks (known_at channel stream earlier) p t (unknown-few (known_at channel stream earlier))) tt) in
      let is = c.named_is in
      omega arith

  lacks : (u : Shape Leaf) → needs_weights u ≡ false → Lacks is_error corrects u
  lacks (leaf l) h = h
  lacks (decision k value left right) h =
      let first = or-left (eqb k 15 || needs_weights left) (needs_weights right) h in
      (or-left (eqb k 15) (needs_weights left) first, (lacks left (or-right (eqb k 15) (needs_weights left) first), lacks right (or-right (eqb k 15 || needs_weights left) (needs_weights right) h)))

  pub needs_only : needs ≡ true → needs_weights t ≡ true
  needs_only so = either (needs_weights t) refl where
    either : (b : Bool) → needs_weights t ≡ b → b ≡ true
    either true is = refl
    either false is = absurd (false≢true (sym (c.needs_is ∙ sees_none nodes (c.keeps.keeps is_error corrects refl (pruned-lacks (known_at channel stream earlier) is_error corrects t (lacks t is)) tt)) ∙ so))

  named_or_lacks : (d : ℕ) (u : Shape Leaf) → NamesEarlier (d + 1) u ⊎ Lacks (of_channel d) no_leaf u
  named_or_lacks d (leaf l) = inr refl
  named_or_lacks d (decision k value left right) = elim (eqb_tells (channels_of k) (d + 1)) [
    | inl is ↦ inl (inl is.1)
    | inr differs ↦ elim (named_or_lacks d left) [
      | inl at_left ↦ inl (inr (inl at_left))
      | inr none_left ↦ elim (named_or_lacks d right) [
        | inl at_right ↦ inl (inr (inr at_right))
        | inr none_right ↦ inr (differs.0, (none_left, none_right))
      ]
    ]
  ]

  pub names : 0 < named → NamesEarlier named t
  names some =
      let d : ℕ = named - 1 in
      let is : d + 1 ≡ named = omega arith in
      elim (named_or_lacks d t) [
        | inl found ↦ subst (λ n. NamesEarlier n t) is found
        | inr none ↦ absurd (channels-other d nodes (c.keeps.keeps (of_channel d) no_leaf (not_zero d) (pruned-lacks (known_at channel stream earlier) (of_channel d) no_leaf t none) tt) (sym c.named_is ∙ sym is))
      ]
