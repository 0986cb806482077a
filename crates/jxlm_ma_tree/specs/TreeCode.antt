-- A code for trees, by which a proof tells them apart: the nodes from the leaves up, from which the tree is put
-- together again.
use Rattle.std.proofs.Common.{◌≡◌, ℕ, ℤ, List, [], ◌∷◌, ◌++◌, refl, sym, ap, ◌∙◌, append_assoc, append-nil, get_or, ◌⊎◌, inl, inr}
use Rattle.std.specs.Coded.{Coded, code_by, coded×, coded⊎, coded_list, coded_ℕ, coded_ℤ}
use Rattle.jxlm_ma_tree.specs.Tree.{Shape, leaf, decision, Node, leaf_node, decision_node, Config}
use Rattle.jxlm_ma_tree.specs.declared.leaf.Leaf.{Leaf}
use base.Stored.{coded_via}

module _ {L : Type 0} where
  -- the nodes, both trees of a decision before it
  abbrev upward : Shape L → List (Node L)
  upward (leaf l) = leaf_node l ∷ []
  upward (decision k value left right) = upward left ++ (upward right ++ decision_node k value ∷ [])

  -- what nodes make of the trees before them: a decision takes the last two
  abbrev built : List (Shape L) → List (Node L) → List (Shape L)
  built trees [] = trees
  built trees (leaf_node l ∷ ns) = built (leaf l ∷ trees) ns
  built [] (decision_node k v ∷ ns) = []
  built (right ∷ []) (decision_node k v ∷ ns) = []
  built (right ∷ (left ∷ trees)) (decision_node k v ∷ ns) = built (decision k v left right ∷ trees) ns

  built_upward : (t : Shape L) (trees : List (Shape L)) (ns : List (Node L)) → built trees (upward t ++ ns) ≡ built (t ∷ trees) ns
  built_upward (leaf l) trees ns = refl
  built_upward (decision k v a b) trees ns =
      ap (built trees) (append_assoc (upward a) (upward b ++ decision_node k v ∷ []) ns ∙ ap (λ xs. upward a ++ xs) (append_assoc (upward b) (decision_node k v ∷ []) ns))
      ∙ built_upward a trees (upward b ++ (decision_node k v ∷ ns))
      ∙ built_upward b (a ∷ trees) (decision_node k v ∷ ns)

  built_alone : (t : Shape L) → built [] (upward t) ≡ t ∷ []
  built_alone t = ap (built []) (sym (append-nil (upward t))) ∙ built_upward t [] []

  pub upward_injective : (t u : Shape L) → upward t ≡ upward u → t ≡ u
  upward_injective t u h = ap (λ xs. get_or xs 0 t) (sym (built_alone t) ∙ ap (built []) h ∙ built_alone u)

  abbrev parts : Node L → L ⊎ (ℕ × ℤ)
  parts (leaf_node l) = inl l
  parts (decision_node k v) = inr (k, v)

  abbrev joined : L ⊎ (ℕ × ℤ) → Node L
  joined (inl l) = leaf_node l
  joined (inr p) = decision_node p.0 p.1

  pub joined_parts : (n : Node L) → joined (parts n) ≡ n
  joined_parts (leaf_node l) = refl
  joined_parts (decision_node k v) = refl

  abbrev coded_node : Coded L → Coded (Node L)
  coded_node c = code_by (L ⊎ (ℕ × ℤ)) (coded⊎ c (coded× coded_ℕ coded_ℤ)) parts joined joined_parts

  abbrev pub coded_shape : Coded L → Coded (Shape L)
  coded_shape c = coded_via (coded_list (coded_node c)) upward upward_injective

abbrev pub coded_config : {S : Type 0} → Coded Leaf → Coded S → Coded (Config S)
coded_config {S} c s = code_by (Shape Leaf × S) (coded× (coded_shape c) s) (λ x. (x.tree, x.decoder)) (λ p. record { tree = p.0; decoder = p.1 }) (λ _. refl)
