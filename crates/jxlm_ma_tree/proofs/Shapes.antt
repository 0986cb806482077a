-- The tree of a listing: its nodes, its leaves, and the queue from which it comes.
use Rattle.std.proofs.Common.{false, true, append_assoc, ◌≡◌, ℕ, suc, ◌+◌, ◌<◌, ◌≤◌, List, [], ◌∷◌, ◌++◌, length, map, Option, Some, refl, sym, ap, ◌∙◌, subst, arith}
use Rattle.std.specs.Prelude.{slice_index}
use Rattle.std.specs.Option.{option_and_then}
use Rattle.std.proofs.lemmas.List.Elements.{Contains-get_or}
use Rattle.jxlm_bits.specs.ErrorKind.{ErrorKind}
use Rattle.jxlm_ma_tree.specs.Inner.Building.{leaves_in}
use Rattle.jxlm_ma_tree.specs.Inner.DraftReading.{AllDrafts, IsDraft}
use Rattle.jxlm_ma_tree.specs.Inner.Queue.{HasTooDeep, IsErrorInQueue, IsTooDeepListing, ListsTooDeep, deepest, taken_up}
use Rattle.jxlm_ma_tree.specs.Tree.{AllLeaves, Shape, leaf, decision, Node, leaf_node, decision_node, depth, levels, node_count}
use Rattle.jxlm_ma_tree.specs.TreeReading.{IsLeafOf, leaf_count, with_clusters}
use Rattle.jxlm_ma_tree.specs.declared.leaf.Leaf.{Leaf}
use Rattle.jxlm_ma_tree.proofs.Listing.{Lists, queue_of, queue_of-levels, queue_of-lists}
use Rattle.jxlm_ma_tree.proofs.Memory.{or_so}
use Rattle.jxlm_ma_tree.proofs.Queues.{queue_after}

-- ---- counts and leaves

module _ {L : Type 0} where
  abbrev nodes_in_all : List (Shape L) → ℕ
  nodes_in_all [] = 0
  nodes_in_all (t ∷ ts) = node_count t + nodes_in_all ts

  nodes_in_all-append : (ts us : List (Shape L)) → nodes_in_all (ts ++ us) ≡ nodes_in_all ts + nodes_in_all us
  nodes_in_all-append [] us = omega arith
  nodes_in_all-append (t ∷ ts) us = omega (arith, nodes_in_all-append ts us)

  counted : (ns : List (Node L)) (ts : List (Shape L)) → Lists ts ns → length ns ≡ nodes_in_all ts
  counted [] [] h = refl
  counted [] (t ∷ ts) h = absurd h
  counted (n ∷ ns) [] h = absurd h
  counted (leaf_node m ∷ ns) (leaf l ∷ ts) h = omega (arith, counted ns ts h.1)
  counted (decision_node q w ∷ ns) (leaf l ∷ ts) h = absurd h
  counted (leaf_node m ∷ ns) (decision p v a b ∷ ts) h = absurd h
  counted (decision_node q w ∷ ns) (decision p v a b ∷ ts) h = omega (arith, counted ns (ts ++ a ∷ b ∷ []) h.1, nodes_in_all-append ts (a ∷ b ∷ []))

  listed : (t : Shape L) → Lists (t ∷ []) (levels t)
  listed t = queue_of-lists (levels t) (t ∷ []) (queue_of-levels t)

  -- a listing has as many nodes as its tree
  pub levels-count : (t : Shape L) → length (levels t) ≡ node_count t
  levels-count t = omega (arith, counted (levels t) (t ∷ []) (listed t))

  abbrev AllListed : (L → Type 0) → List (Node L) → Type 0
  AllListed P [] = Unit {0}
  AllListed P (leaf_node l ∷ ns) = P l × AllListed P ns
  AllListed P (decision_node q w ∷ ns) = AllListed P ns

  abbrev AllTrees : (L → Type 0) → List (Shape L) → Type 0
  AllTrees P [] = Unit {0}
  AllTrees P (t ∷ ts) = AllLeaves P t × AllTrees P ts

  last_two : (P : L → Type 0) (ts : List (Shape L)) (a b : Shape L) → AllTrees P (ts ++ a ∷ b ∷ []) → AllTrees P ts × (AllLeaves P a × AllLeaves P b)
  last_two P [] a b h = (tt, (h.0, h.1.0))
  last_two P (t ∷ ts) a b h = let rest = last_two P ts a b h.1 in ((h.0, rest.0), rest.1)

  leaves_of_listed : (P : L → Type 0) (ns : List (Node L)) (ts : List (Shape L)) → Lists ts ns → AllListed P ns → AllTrees P ts
  leaves_of_listed P [] [] h all = tt
  leaves_of_listed P [] (t ∷ ts) h all = absurd h
  leaves_of_listed P (n ∷ ns) [] h all = absurd h
  leaves_of_listed P (leaf_node m ∷ ns) (leaf l ∷ ts) h all = (subst P h.0 all.0, leaves_of_listed P ns ts h.1 all.1)
  leaves_of_listed P (decision_node q w ∷ ns) (leaf l ∷ ts) h all = absurd h
  leaves_of_listed P (leaf_node m ∷ ns) (decision p v a b ∷ ts) h all = absurd h
  leaves_of_listed P (decision_node q w ∷ ns) (decision p v a b ∷ ts) h all =
      let rest = last_two P ts a b (leaves_of_listed P ns (ts ++ a ∷ b ∷ []) h.1 all) in (rest.1, rest.0)

  levels-leaves : (P : L → Type 0) (t : Shape L) → AllListed P (levels t) → AllLeaves P t
  levels-leaves P t all = (leaves_of_listed P (levels t) (t ∷ []) (listed t) all).0

module _ (clusters : List ℕ) where
  pub with_clusters-length : (k : ℕ) (ns : List (Node Leaf)) → length (with_clusters clusters k ns) ≡ length ns
  with_clusters-length k [] = refl
  with_clusters-length k (leaf_node l ∷ ns) = ap suc (with_clusters-length (suc k) ns)
  with_clusters-length k (decision_node p v ∷ ns) = ap suc (with_clusters-length k ns)

  clustered : (k : ℕ) (ns : List (Node Leaf)) → k + leaf_count ns ≤ length clusters → AllDrafts ns → AllListed (IsLeafOf clusters) (with_clusters clusters k ns)
  clustered k [] h all = tt
  clustered k (leaf_node l ∷ ns) h all =
      let d : IsDraft l = all.0 in (
        record { cluster = Contains-get_or clusters k 0 (omega (arith, h)); offset = d.offset; least = d.least; below = d.below },
        clustered (suc k) ns (omega (arith, h)) all.1,
      )
  clustered k (decision_node p v ∷ ns) h all = clustered k ns h all.1

  -- each leaf of a tree that was read is one of its decoder
  pub leaves_are : (t : Shape Leaf) (ns : List (Node Leaf)) → levels t ≡ with_clusters clusters 0 ns → leaf_count ns ≤ length clusters → AllDrafts ns → AllLeaves (IsLeafOf clusters) t
  leaves_are t ns e h all = levels-leaves (IsLeafOf clusters) t (subst (AllListed (IsLeafOf clusters)) (sym e) (clustered 0 ns (omega (arith, h)) all))

  pub count_is : (t : Shape Leaf) (ns : List (Node Leaf)) → levels t ≡ with_clusters clusters 0 ns → node_count t ≡ length ns
  count_is t ns e = sym (levels-count t) ∙ ap length e ∙ with_clusters-length 0 ns

  -- ---- from the end of the listing

  with_clusters-append : (k : ℕ) (xs ys : List (Node Leaf)) → with_clusters clusters k (xs ++ ys) ≡ with_clusters clusters k xs ++ with_clusters clusters (k + leaf_count xs) ys
  with_clusters-append k [] ys = let none : k + 0 ≡ k = omega arith in sym (ap (λ i. with_clusters clusters i ys) none)
  with_clusters-append k (leaf_node l ∷ xs) ys =
      let more : k + suc (leaf_count xs) ≡ suc k + leaf_count xs = omega arith in
      rw more (ap (λ (ns : List (Node Leaf)). leaf_node (record { cluster = slice_index clusters k; predictor = l.predictor; offset = l.offset; multiplier = l.multiplier }) ∷ ns) (with_clusters-append (suc k) xs ys))
  with_clusters-append k (decision_node p v ∷ xs) ys = ap (λ (ns : List (Node Leaf)). decision_node p v ∷ ns) (with_clusters-append k xs ys)

  -- how a queue is when a node has been taken up, where the whole listing is that of t
  pub record TakenUp (t : Shape Leaf) (front rest : List (Node Leaf)) (n : Node Leaf) (listed_node : Node Leaf) (trees : List (Shape Leaf)) : Type 0 where
    pub queue : List (Shape Leaf)
    pub taken : taken_up listed_node trees ≡ Some queue
    pub stands : queue_of (with_clusters clusters (leaf_count front) (n ∷ rest)) ≡ Some queue
    pub shallow : deepest queue ≤ depth t

  pub is_taken_up : (t : Shape Leaf) (ns front rest : List (Node Leaf)) (n : Node Leaf) (listed_node : Node Leaf) (k : ℕ) (trees : List (Shape Leaf)) → levels t ≡ with_clusters clusters 0 ns → ns ≡ front ++ n ∷ rest →
      with_clusters clusters (leaf_count front) (n ∷ rest) ≡ listed_node ∷ with_clusters clusters k rest → queue_of (with_clusters clusters k rest) ≡ Some trees → TakenUp t front rest n listed_node trees
  is_taken_up t ns front rest n listed_node k trees e split numbered stands =
      let from_zero : leaf_count front ≡ 0 + leaf_count front = omega arith in
      let whole : queue_of (with_clusters clusters 0 front ++ with_clusters clusters (leaf_count front) (n ∷ rest)) ≡ Some (t ∷ []) =
      ap queue_of (ap (λ i. with_clusters clusters 0 front ++ with_clusters clusters i (n ∷ rest)) from_zero ∙ sym (with_clusters-append 0 front (n ∷ rest)) ∙ ap (with_clusters clusters 0) (sym split) ∙ sym e) ∙ queue_of-levels t in
      let after_it = queue_after (with_clusters clusters 0 front) (with_clusters clusters (leaf_count front) (n ∷ rest)) (t ∷ []) whole in
      let one : queue_of (with_clusters clusters (leaf_count front) (n ∷ rest)) ≡ taken_up listed_node trees = ap queue_of numbered ∙ ap (option_and_then (taken_up listed_node)) stands in
      record { queue = after_it.0; taken = sym one ∙ after_it.1; stands = after_it.1; shallow = omega (arith, after_it.2) }

  too_deep_whole : (limit : ℕ) (t : Shape Leaf) (ns : List (Node Leaf)) (queue : List (Shape Leaf)) (error : ErrorKind) → levels t ≡ ns → deepest queue ≤ depth t → HasTooDeep limit (Some queue) error → ListsTooDeep limit ns error
  too_deep_whole limit t ns queue error e h deep =
      let is : queue ≡ deep.trees = cc (deep.are) in
      record { failure = deep.failure; tree = t; lists = e; beyond = omega (arith, deep.beyond, ap deepest is) }

  -- what is too deep in the queue is so in the tree
  pub too_deep_in_tree : (limit : ℕ) (t : Shape Leaf) (ns : List (Node Leaf)) (queue : Option (List (Shape Leaf))) (q : List (Shape Leaf)) (error : ErrorKind) → levels t ≡ ns → queue ≡ Some q → deepest q ≤ depth t →
      IsErrorInQueue limit queue error → IsTooDeepListing limit ns error
  too_deep_in_tree limit t ns queue q error e is h failed = let now = rw is at failed in or_so (too_deep_whole limit t ns q error e h) now

leaf_count-append : (xs ys : List (Node Leaf)) → leaf_count (xs ++ ys) ≡ leaf_count xs + leaf_count ys
leaf_count-append [] ys = omega arith
leaf_count-append (leaf_node l ∷ xs) ys = omega (arith, leaf_count-append xs ys)
leaf_count-append (decision_node p v ∷ xs) ys = leaf_count-append xs ys

pub leaf_count-last : (ns : List (Node Leaf)) (n : Node Leaf) → leaf_count (ns ++ n ∷ []) ≡ leaf_count ns + leaves_in n
leaf_count-last [] (leaf_node l) = refl
leaf_count-last [] (decision_node p v) = refl
leaf_count-last (leaf_node l ∷ ns) n = omega (arith, leaf_count-last ns n)
leaf_count-last (decision_node p v ∷ ns) n = leaf_count-last ns n

-- one node from the end of what is left comes before what was taken
pub split_at : (ns left front rest : List (Node Leaf)) (n : Node Leaf) → ns ≡ left ++ rest → left ≡ front ++ n ∷ [] → ns ≡ front ++ n ∷ rest
split_at ns left front rest n whole last = whole ∙ ap (λ xs. xs ++ rest) last ∙ append_assoc front (n ∷ []) rest

pub place_is : (left front : List (Node Leaf)) (n : Node Leaf) (k less : ℕ) → left ≡ front ++ n ∷ [] → k ≡ leaf_count left → k ≡ less + leaves_in n → less ≡ leaf_count front
place_is left front n k less last numbered step = omega (arith, ap leaf_count last, leaf_count-last front n, numbered, step)

pub some_left : (left front : List (Node Leaf)) (n : Node Leaf) (k : ℕ) → left ≡ front ++ n ∷ [] → k ≡ leaf_count left → leaves_in n ≤ k
some_left left front n k last numbered = omega (arith, ap leaf_count last, leaf_count-last front n, numbered)

-- no more leaves are left than there are
pub fewer_left : (ns left rest : List (Node Leaf)) (clusters : List ℕ) (k : ℕ) → ns ≡ left ++ rest → k ≡ leaf_count left → length clusters ≡ leaf_count ns → k ≤ length clusters
fewer_left ns left rest clusters k whole numbered all = omega (arith, ap leaf_count whole, leaf_count-append left rest, numbered, all)

-- where all nodes are taken up, the queue has the one tree
one_tree_left : (clusters : List ℕ) (t : Shape Leaf) (ns left rest : List (Node Leaf)) (k : ℕ) (trees : List (Shape Leaf)) → levels t ≡ with_clusters clusters 0 ns → ns ≡ left ++ rest → left ≡ [] → k ≡ leaf_count left →
    queue_of (with_clusters clusters k rest) ≡ Some trees → trees ≡ t ∷ []
one_tree_left clusters t ns left rest k trees e whole none numbered stands =
    let all : ns ≡ rest = whole ∙ ap (λ xs. xs ++ rest) none in
    let first : k ≡ 0 = numbered ∙ ap leaf_count none in
    let is : queue_of (levels t) ≡ queue_of (with_clusters clusters k rest) = ap queue_of (e ∙ ap (with_clusters clusters 0) all ∙ ap (λ i. with_clusters clusters i rest) (sym first)) in
    let same : Some (t ∷ []) ≡ Some trees = sym (queue_of-levels t) ∙ is ∙ stands in
    cc

pub nothing_left : {X : Type 0} (xs : List X) → (0 < length xs → false ≡ true) → xs ≡ []
nothing_left [] h = refl
nothing_left (x ∷ xs) h = let wrong = h (omega arith) in cc

pub whole_taken : {X : Type 0} (f : X → Node Leaf) (clusters : List ℕ) (t : Shape Leaf) (ns : List (Node Leaf)) (left : List X) (rest : List (Node Leaf)) (k : ℕ) (trees : List (Shape Leaf)) →
    levels t ≡ with_clusters clusters 0 ns → (0 < length left → false ≡ true) → ns ≡ map f left ++ rest → k ≡ leaf_count (map f left) → queue_of (with_clusters clusters k rest) ≡ Some trees → trees ≡ t ∷ []
whole_taken f clusters t ns left rest k trees e none whole numbered stands = one_tree_left clusters t ns (map f left) rest k trees e whole (ap (map f) (nothing_left left none)) numbered stands
