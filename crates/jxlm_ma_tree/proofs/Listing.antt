-- No two trees have one listing. A tree comes from the end of its listing by a queue: a leaf goes to the back, and a
-- decision takes its right and then its left tree from the front.
use Rattle.std.proofs.Common.{◌≡◌, ℕ, zero, suc, ◌+◌, ◌≤◌, List, [], ◌∷◌, ◌++◌, reverse, Option, None, Some, refl, sym, ap, ◌∙◌, subst, append_assoc, append-nil, arith}
use Rattle.std.specs.Option.{option_and_then}
use Rattle.std.proofs.lemmas.List.{reverse-append}
use Rattle.std.specs.List.{flat_map}
use Rattle.jxlm_ma_tree.specs.Inner.Queue.{taken_up}
use Rattle.jxlm_ma_tree.specs.Tree.{Shape, leaf, decision, Node, leaf_node, decision_node, beside, rows, levels}

-- rows one after another
abbrev in_a_row : {L : Type 0} → List (List (Node L)) → List (Node L)
in_a_row rows = flat_map (λ row. row) rows

reverse-cons : {X : Type 0} (x : X) (xs : List X) → reverse (x ∷ xs) ≡ reverse xs ++ x ∷ []
reverse-cons x xs = reverse-append (x ∷ []) xs

reverse-push : {X : Type 0} (xs : List X) (x : X) → reverse (xs ++ x ∷ []) ≡ x ∷ reverse xs
reverse-push xs x = reverse-append xs (x ∷ [])

module _ {L : Type 0} where
  -- the queue after nodes that are taken up from the last on
  abbrev pub queue_of : List (Node L) → Option (List (Shape L))
  queue_of [] = Some []
  queue_of (n ∷ ns) = option_and_then (taken_up n) (queue_of ns)

  -- the nodes of these trees, one after another, where each decision puts its two trees after the others
  abbrev pub Lists : List (Shape L) → List (Node L) → Type 0
  Lists [] [] = Unit {0}
  Lists [] (n ∷ ns) = ⊥
  Lists (t ∷ ts) [] = ⊥
  Lists (leaf l ∷ ts) (leaf_node m ∷ ns) = (m ≡ l) × Lists ts ns
  Lists (leaf l ∷ ts) (decision_node q w ∷ ns) = ⊥
  Lists (decision p v a b ∷ ts) (leaf_node m ∷ ns) = ⊥
  Lists (decision p v a b ∷ ts) (decision_node q w ∷ ns) = ((q ≡ p) × (w ≡ v)) × Lists (ts ++ a ∷ b ∷ []) ns

  -- ---- the queue's trees are listed

  lists_taken : (n : Node L) (queue new : List (Shape L)) (ns : List (Node L)) → Lists (reverse queue) ns → taken_up n queue ≡ Some new → Lists (reverse new) (n ∷ ns)
  lists_taken (leaf_node l) queue new ns h e =
      let is : queue ++ leaf l ∷ [] ≡ new = cc in
      subst (λ q. Lists q (leaf_node l ∷ ns)) (sym (reverse-push queue (leaf l)) ∙ ap reverse is) (refl, h)
  lists_taken (decision_node p v) [] new ns h e = cc
  lists_taken (decision_node p v) (r ∷ []) new ns h e = cc
  lists_taken (decision_node p v) (r ∷ (l ∷ rest)) new ns h e =
      let is : rest ++ decision p v l r ∷ [] ≡ new = cc in
      let turned : reverse (r ∷ (l ∷ rest)) ≡ reverse rest ++ l ∷ r ∷ [] = reverse-cons r (l ∷ rest) ∙ ap (λ xs. xs ++ r ∷ []) (reverse-cons l rest) ∙ append_assoc (reverse rest) (l ∷ []) (r ∷ []) in
      let under : Lists (reverse rest ++ l ∷ r ∷ []) ns = subst (λ q. Lists q ns) turned h in
      subst (λ q. Lists q (decision_node p v ∷ ns)) (sym (reverse-push rest (decision p v l r)) ∙ ap reverse is) ((refl, refl), under)

  lists_more : (n : Node L) (ns : List (Node L)) (queue : List (Shape L)) (o : Option (List (Shape L))) → ((before : List (Shape L)) → o ≡ Some before → Lists (reverse before) ns) →
      option_and_then (taken_up n) o ≡ Some queue → Lists (reverse queue) (n ∷ ns)
  lists_more n ns queue None under e = cc
  lists_more n ns queue (Some before) under e = lists_taken n before queue ns (under before refl) e

  pub queue_of-lists : (ns : List (Node L)) (queue : List (Shape L)) → queue_of ns ≡ Some queue → Lists (reverse queue) ns
  queue_of-lists [] queue e = let is : [] ≡ queue = cc in subst (λ q. Lists (reverse q) []) is tt
  queue_of-lists (n ∷ ns) queue e = lists_more n ns queue (queue_of ns) (λ before is. queue_of-lists ns before is) e

  -- ---- what is listed comes back

  pub lists-queue_of : (ns : List (Node L)) (ts : List (Shape L)) → Lists ts ns → queue_of ns ≡ Some (reverse ts)
  lists-queue_of [] [] h = refl
  lists-queue_of [] (t ∷ ts) h = absurd h
  lists-queue_of (n ∷ ns) [] h = absurd h
  lists-queue_of (leaf_node m ∷ ns) (leaf l ∷ ts) h =
      ap (option_and_then (taken_up (leaf_node m))) (lists-queue_of ns ts h.1) ∙ ap (λ x. Some (reverse ts ++ leaf x ∷ [])) h.0 ∙ ap Some (sym (reverse-cons (leaf l) ts))
  lists-queue_of (decision_node q w ∷ ns) (leaf l ∷ ts) h = absurd h
  lists-queue_of (leaf_node m ∷ ns) (decision p v a b ∷ ts) h = absurd h
  lists-queue_of (decision_node q w ∷ ns) (decision p v a b ∷ ts) h =
      let under = lists-queue_of ns (ts ++ a ∷ b ∷ []) h.1 in
      let turned : reverse (ts ++ a ∷ b ∷ []) ≡ b ∷ (a ∷ reverse ts) = reverse-append ts (a ∷ b ∷ []) in
      ap (option_and_then (taken_up (decision_node q w))) (under ∙ ap Some turned)
      ∙ ap (λ x. Some (reverse ts ++ decision x w a b ∷ [])) h.0.0
      ∙ ap (λ x. Some (reverse ts ++ decision p x a b ∷ [])) h.0.1
      ∙ ap Some (sym (reverse-cons (decision p v a b) ts))

  -- ---- the listing of one tree is its levels

  -- the rows of trees side by side
  abbrev all_rows : List (Shape L) → List (List (Node L))
  all_rows [] = []
  all_rows (t ∷ ts) = beside (rows t) (all_rows ts)

  beside-nil : (a : List (List (Node L))) → beside a [] ≡ a
  beside-nil [] = refl
  beside-nil (x ∷ xs) = refl

  beside_assoc : (a b c : List (List (Node L))) → beside (beside a b) c ≡ beside a (beside b c)
  beside_assoc [] b c = refl
  beside_assoc (x ∷ xs) [] c = refl
  beside_assoc (x ∷ xs) (y ∷ ys) [] = refl
  beside_assoc (x ∷ xs) (y ∷ ys) (z ∷ zs) = ap (λ (h : List (Node L)). h ∷ beside (beside xs ys) zs) (append_assoc x y z) ∙ ap (λ t. (x ++ (y ++ z)) ∷ t) (beside_assoc xs ys zs)

  all_rows-append : (ts us : List (Shape L)) → all_rows (ts ++ us) ≡ beside (all_rows ts) (all_rows us)
  all_rows-append [] us = refl
  all_rows-append (t ∷ ts) us = ap (beside (rows t)) (all_rows-append ts us) ∙ sym (beside_assoc (rows t) (all_rows ts) (all_rows us))

  -- An empty first row changes nothing.
  in_a_row-beside_empty : (c : List (List (Node L))) → in_a_row (beside ([] ∷ []) c) ≡ in_a_row c
  in_a_row-beside_empty [] = refl
  in_a_row-beside_empty (x ∷ xs) = refl

  -- A node before the first row comes first.
  in_a_row-beside_front : (n : Node L) (a b c : List (List (Node L))) → in_a_row (beside ([] ∷ a) (beside ((n ∷ []) ∷ b) c)) ≡ n ∷ in_a_row (beside ([] ∷ beside a b) c)
  in_a_row-beside_front n a b [] = refl
  in_a_row-beside_front n a b (x ∷ xs) = ap (λ t. n ∷ (x ++ in_a_row t)) (sym (beside_assoc a b xs))

  two_rows : (a b : Shape L) → all_rows (a ∷ b ∷ []) ≡ beside (rows a) (rows b)
  two_rows a b = ap (beside (rows a)) (beside-nil (rows b))

  -- A row of trees us, of which the front ones are gone and have put their trees vs after it.
  lists_rows : (ns : List (Node L)) (us vs : List (Shape L)) → Lists (us ++ vs) ns → ns ≡ in_a_row (beside ([] ∷ all_rows vs) (all_rows us))
  lists_rows [] [] [] h = refl
  lists_rows [] [] (v ∷ vs) h = absurd h
  lists_rows [] (u ∷ us) vs h = absurd h
  lists_rows (n ∷ ns) [] [] h = absurd h
  lists_rows (leaf_node m ∷ ns) [] (leaf l ∷ vs) h =
      let under = lists_rows ns vs [] (subst (λ ts. Lists ts ns) (sym (append-nil vs)) h.1) in
      ap (λ x. leaf_node x ∷ ns) h.0
      ∙ ap (λ t. leaf_node l ∷ t) under
      ∙ sym (in_a_row-beside_front (leaf_node l) [] [] (all_rows vs))
      ∙ in_a_row-beside_empty (beside ((leaf_node l ∷ []) ∷ []) (all_rows vs))
  lists_rows (decision_node q w ∷ ns) [] (leaf l ∷ vs) h = absurd h
  lists_rows (leaf_node m ∷ ns) [] (decision p v a b ∷ vs) h = absurd h
  lists_rows (decision_node q w ∷ ns) [] (decision p v a b ∷ vs) h =
      let under = lists_rows ns vs (a ∷ b ∷ []) h.1 in
      ap (λ x. decision_node x w ∷ ns) h.0.0
      ∙ ap (λ x. decision_node p x ∷ ns) h.0.1
      ∙ ap (λ t. decision_node p v ∷ t) (under ∙ ap (λ r. in_a_row (beside ([] ∷ r) (all_rows vs))) (two_rows a b))
      ∙ sym (in_a_row-beside_front (decision_node p v) [] (beside (rows a) (rows b)) (all_rows vs))
      ∙ in_a_row-beside_empty (beside ((decision_node p v ∷ []) ∷ beside (rows a) (rows b)) (all_rows vs))
  lists_rows (leaf_node m ∷ ns) (leaf l ∷ us) vs h =
      let under = lists_rows ns us vs h.1 in
      ap (λ x. leaf_node x ∷ ns) h.0
      ∙ ap (λ t. leaf_node l ∷ t) (under ∙ ap (λ r. in_a_row (beside ([] ∷ r) (all_rows us))) (sym (beside-nil (all_rows vs))))
      ∙ sym (in_a_row-beside_front (leaf_node l) (all_rows vs) [] (all_rows us))
  lists_rows (decision_node q w ∷ ns) (leaf l ∷ us) vs h = absurd h
  lists_rows (leaf_node m ∷ ns) (decision p v a b ∷ us) vs h = absurd h
  lists_rows (decision_node q w ∷ ns) (decision p v a b ∷ us) vs h =
      let under = lists_rows ns us (vs ++ a ∷ b ∷ []) (subst (λ ts. Lists ts ns) (append_assoc us vs (a ∷ b ∷ [])) h.1) in
      ap (λ x. decision_node x w ∷ ns) h.0.0
      ∙ ap (λ x. decision_node p x ∷ ns) h.0.1
      ∙ ap (λ t. decision_node p v ∷ t) (under ∙ ap (λ r. in_a_row (beside ([] ∷ r) (all_rows us))) (all_rows-append vs (a ∷ b ∷ []) ∙ ap (beside (all_rows vs)) (two_rows a b)))
      ∙ sym (in_a_row-beside_front (decision_node p v) (all_rows vs) (beside (rows a) (rows b)) (all_rows us))

  pub lists-levels : (t : Shape L) (ns : List (Node L)) → Lists (t ∷ []) ns → ns ≡ levels t
  lists-levels t ns h = lists_rows ns (t ∷ []) [] h ∙ in_a_row-beside_empty (all_rows (t ∷ [])) ∙ ap in_a_row (beside-nil (rows t))

  -- ---- each tree has a listing

  abbrev size : Shape L → ℕ
  size (leaf l) = 1
  size (decision p v a b) = size a + size b + 1

  abbrev weight : List (Shape L) → ℕ
  weight [] = 0
  weight (t ∷ ts) = size t + weight ts

  weight-append : (ts us : List (Shape L)) → weight (ts ++ us) ≡ weight ts + weight us
  weight-append [] us = omega arith
  weight-append (t ∷ ts) us = omega (arith, weight-append ts us)

  lists_some : (k : ℕ) (ts : List (Shape L)) → weight ts ≤ k → (ns : List (Node L)) × Lists ts ns
  lists_some k [] h = ([], tt)
  lists_some zero (leaf l ∷ ts) h = absurd (omega arith)
  lists_some zero (decision p v a b ∷ ts) h = absurd (omega arith)
  lists_some (suc k) (leaf l ∷ ts) h = let r = lists_some k ts (omega arith) in (leaf_node l ∷ r.0, (refl, r.1))
  lists_some (suc k) (decision p v a b ∷ ts) h =
      let r = lists_some k (ts ++ a ∷ b ∷ []) (omega (arith, weight-append ts (a ∷ b ∷ []))) in (decision_node p v ∷ r.0, ((refl, refl), r.1))

  pub queue_of-levels : (t : Shape L) → queue_of (levels t) ≡ Some (t ∷ [])
  queue_of-levels t =
      let r = lists_some (weight (t ∷ [])) (t ∷ []) (omega arith) in
      ap queue_of (sym (lists-levels t r.0 r.1)) ∙ lists-queue_of r.0 (t ∷ []) r.1

  -- the listing of the one tree in the queue
  pub levels-from_queue : (ns : List (Node L)) (t : Shape L) → queue_of ns ≡ Some (t ∷ []) → levels t ≡ ns
  levels-from_queue ns t e = sym (lists-levels t ns (queue_of-lists ns (t ∷ []) e))

  -- no other tree has these levels
  pub levels-injective : (t u : Shape L) → levels t ≡ levels u → t ≡ u
  levels-injective t u e = let h : Some (t ∷ []) ≡ Some (u ∷ []) = sym (queue_of-levels t) ∙ ap queue_of e ∙ queue_of-levels u in cc
