-- A queue of trees: what is in it, and how deep that is.
use Rattle.std.proofs.Common.{◌≡◌, ℕ, ◌<◌, ◌≤◌, max, ℤ, List, [], ◌∷◌, ◌++◌, Option, None, Some, refl, subst, arith, map}
use Rattle.std.specs.Option.{option_and_then}
use Rattle.jxlm_bits.specs.ErrorKind.{ErrorKind}
use Rattle.jxlm_ma_tree.specs.Inner.Queue.{HasTooDeep, IsTooDeepAt, IsErrorInQueue, deepest, taken_up, too_deep}
use Rattle.jxlm_ma_tree.specs.Tree.{Shape, leaf, decision, Node, leaf_node, decision_node, depth}
use Rattle.jxlm_ma_tree.proofs.Listing.{queue_of}
use Rattle.jxlm_ma_tree.proofs.Memory.{or_so}

module _ {L : Type 0} where
  pub deepest-append : (ts us : List (Shape L)) → deepest (ts ++ us) ≡ max (deepest ts) (deepest us)
  deepest-append [] us = omega arith
  deepest-append (t ∷ ts) us = omega (arith, deepest-append ts us)

  deepest_last : (ts : List (Shape L)) (t : Shape L) → depth t ≤ deepest (ts ++ t ∷ [])
  deepest_last ts t = omega (arith, deepest-append ts (t ∷ []))

  has_too_deep : (limit property : ℕ) (value : ℤ) (right left : Shape L) (rest : List (Shape L)) (error : ErrorKind) → (error ≡ too_deep) × (limit < depth (decision property value left right)) →
      HasTooDeep limit (taken_up (decision_node property value) (right ∷ (left ∷ rest))) error
  has_too_deep limit property value right left rest error h = record {
    failure = h.0;
    trees = rest ++ decision property value left right ∷ [];
    are = refl;
    beyond = omega (arith, h.1, deepest_last rest (decision property value left right));
  }

  -- a decision that is too deep would be in the queue
  pub too_deep_in_queue : (limit property : ℕ) (value : ℤ) (right left : Shape L) (rest : List (Shape L)) (error : ErrorKind) → IsTooDeepAt limit (decision property value left right) error →
      IsErrorInQueue limit (taken_up (decision_node property value) (right ∷ (left ∷ rest))) error
  too_deep_in_queue limit property value right left rest error h = or_so (has_too_deep limit property value right left rest error) h

  -- a tree that is not too deep joins those that are not
  pub still_shallow : (limit : ℕ) (ts : List (Shape L)) (t : Shape L) → deepest ts ≤ limit → depth t ≤ limit → deepest (ts ++ t ∷ []) ≤ limit
  still_shallow limit ts t h k = omega (arith, deepest-append ts (t ∷ []))

  -- what is after two trees is no deeper
  pub deepest_after : {X : Type 0} (f : X → Shape L) (limit : ℕ) (xs : List X) (a b : X) (rest : List X) → xs ≡ a ∷ (b ∷ rest) → deepest (map f xs) ≤ limit → deepest (map f rest) ≤ limit
  deepest_after f limit xs a b rest e h = let whole = rw e at h in omega (arith, whole)

  -- ---- a queue that comes from another one is no less deep

  deeper_taken : (n : Node L) (queue new : List (Shape L)) → taken_up n queue ≡ Some new → deepest queue ≤ deepest new
  deeper_taken (leaf_node l) queue new e =
      let is : queue ++ leaf l ∷ [] ≡ new = cc in
      subst (λ q. deepest queue ≤ deepest q) is (omega (arith, deepest-append queue (leaf l ∷ [])))
  deeper_taken (decision_node p v) [] new e = cc
  deeper_taken (decision_node p v) (r ∷ []) new e = cc
  deeper_taken (decision_node p v) (r ∷ (l ∷ rest)) new e =
      let is : rest ++ decision p v l r ∷ [] ≡ new = cc in
      subst (λ q. deepest (r ∷ (l ∷ rest)) ≤ deepest q) is (omega (arith, deepest-append rest (decision p v l r ∷ [])))

  before : (n : Node L) (o : Option (List (Shape L))) (new : List (Shape L)) → option_and_then (taken_up n) o ≡ Some new → (queue : List (Shape L)) × (o ≡ Some queue) × (taken_up n queue ≡ Some new)
  before n None new e = cc
  before n (Some queue) new e = (queue, refl, e)

  -- the queue after the last nodes, where all have one
  pub queue_after : (front ns : List (Node L)) (whole : List (Shape L)) → queue_of (front ++ ns) ≡ Some whole → (queue : List (Shape L)) × (queue_of ns ≡ Some queue) × (deepest queue ≤ deepest whole)
  queue_after [] ns whole e = (whole, e, omega arith)
  queue_after (n ∷ front) ns whole e =
      let last = before n (queue_of (front ++ ns)) whole e in
      let rest = queue_after front ns last.0 last.1 in
      (rest.0, rest.1, omega (arith, rest.2, deeper_taken n last.0 whole last.2))
