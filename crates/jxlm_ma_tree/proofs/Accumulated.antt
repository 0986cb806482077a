-- Nodes that are read one after another: what was read before comes before what is still read.
use Rattle.std.proofs.Common.{◌≡◌, ℕ, zero, suc, ◌+◌, ◌-◌, ◌<◌, ◌≤◌, List, [], ◌∷◌, ◌++◌, Some, Result, Ok, Err, refl, sym, ap, ◌∙◌, arith, append_assoc, append-nil}
use Rattle.jxlm_bits.specs.Decoding.{Meaning}
use Rattle.jxlm_bits.specs.Decoding.{Taken}
use Rattle.jxlm_bits.specs.ErrorKind.{ErrorKind, ErrorAt, ◌>>=◌}
use Rattle.jxlm_ma_tree.specs.Inner.DraftReading.{AllDrafts, IsDraftNode}
use Rattle.jxlm_ma_tree.specs.Tree.{Node, leaf_node, decision_node}
use Rattle.jxlm_ma_tree.specs.TreeReading.{children, node_at, nodes_at}
use Rattle.jxlm_ma_tree.specs.declared.leaf.Leaf.{Leaf}

module _ {S : Type 0} where
  abbrev pub with_front : List (Node Leaf) → Result (Taken (List (Node Leaf)) S) ErrorAt → Result (Taken (List (Node Leaf)) S) ErrorAt
  with_front front (Ok x) = Ok (record { value = front ++ x.value; state = x.state; position = x.position })
  with_front front (Err e) = Err e

  pub with_front-nil : (r : Result (Taken (List (Node Leaf)) S) ErrorAt) → with_front [] r ≡ r
  with_front-nil (Ok x) = refl
  with_front-nil (Err e) = refl

  -- one node more before the others
  with_front-more : (front : List (Node Leaf)) (n : Node Leaf) (r : Result (Taken (List (Node Leaf)) S) ErrorAt) → with_front front (with_front (n ∷ []) r) ≡ with_front (front ++ n ∷ []) r
  with_front-more front n (Ok x) = ap (λ (v : List (Node Leaf)). Ok (record { value = v; state = x.state; position = x.position })) (sym (append_assoc front (n ∷ []) x.value))
  with_front-more front n (Err e) = refl

  module _ (d : Meaning S) (bytes : List ℕ) (limit : ErrorKind) where
    placed_first : (n : Node Leaf) (r : Result (Taken (List (Node Leaf)) S) ErrorAt) →
        (r >>= (λ others. Ok (record { value = n ∷ others.value; state = others.state; position = others.position }))) ≡ with_front (n ∷ []) r
    placed_first n (Ok x) = refl
    placed_first n (Err e) = refl

    node_first : (room missing : ℕ) (s t : S) (p q : ℕ) (n : Node Leaf) → node_at d bytes s p ≡ Ok (record { value = n; state = t; position = q }) →
        nodes_at d bytes limit (suc room) (suc missing) s p ≡ with_front (n ∷ []) (nodes_at d bytes limit room (missing + children n) t q)
    unfolding nodes_at
    node_first room missing s t p q n e = rw e (placed_first n (nodes_at d bytes limit room (missing + children n) t q))

    -- a node is read
    pub node_more : (front : List (Node Leaf)) (room less missing more : ℕ) (s t : S) (p q : ℕ) (n : Node Leaf) → room ≡ suc less → 0 < missing → more ≡ missing - 1 + children n →
        node_at d bytes s p ≡ Ok (record { value = n; state = t; position = q }) →
        with_front front (nodes_at d bytes limit room missing s p) ≡ with_front (front ++ n ∷ []) (nodes_at d bytes limit less more t q)
    node_more front zero less missing more s t p q n h k m e = absurd (omega (arith, h))
    node_more front (suc room) less zero more s t p q n h k m e = absurd (omega (arith, k))
    node_more front (suc room) less (suc missing) more s t p q n h k m e =
        let left : less ≡ room = omega (arith, h) in
        let now : more ≡ missing + children n = omega (arith, m) in
        rw (left, now) (ap (with_front front) (node_first room missing s t p q n e) ∙ with_front-more front n (nodes_at d bytes limit room (missing + children n) t q))

    -- a node gives an error
    pub node_fails : (front : List (Node Leaf)) (room missing : ℕ) (s : S) (p : ℕ) (e : ErrorAt) → 0 < room → 0 < missing → node_at d bytes s p ≡ Err e → with_front front (nodes_at d bytes limit room missing s p) ≡ Err e
    unfolding nodes_at
    node_fails front zero missing s p e h k r = absurd (omega (arith, h))
    node_fails front (suc room) zero s p e h k r = absurd (omega (arith, k))
    node_fails front (suc room) (suc missing) s p e h k r = rw r refl

    -- there is no room
    pub no_room : (front : List (Node Leaf)) (room missing : ℕ) (s : S) (p : ℕ) → room ≡ 0 → 0 < missing → with_front front (nodes_at d bytes limit room missing s p) ≡ Err (record { error = limit; position = Some p })
    unfolding nodes_at
    no_room front room zero s p h k = absurd (omega (arith, k))
    no_room front zero (suc missing) s p h k = refl
    no_room front (suc room) (suc missing) s p h k = absurd (omega (arith, h))

    -- none is missing
    pub all_read : (front : List (Node Leaf)) (room missing : ℕ) (s : S) (p : ℕ) → missing ≡ 0 → with_front front (nodes_at d bytes limit room missing s p) ≡ Ok (record { value = front; state = s; position = p })
    unfolding nodes_at
    all_read front zero zero s p h = ap (λ (v : List (Node Leaf)). Ok (record { value = v; state = s; position = p })) (append-nil front)
    all_read front (suc room) zero s p h = ap (λ (v : List (Node Leaf)). Ok (record { value = v; state = s; position = p })) (append-nil front)
    all_read front room (suc missing) s p h = absurd (omega (arith, h))

pub drafts_more : (ns : List (Node Leaf)) (n : Node Leaf) → AllDrafts ns → IsDraftNode n → AllDrafts (ns ++ n ∷ [])
drafts_more [] n h k = (k, tt)
drafts_more (m ∷ ns) n h k = (h.0, drafts_more ns n h.1 k)

-- no node calls for more
pub children_few : (n : Node Leaf) → children n ≤ 2
children_few (leaf_node l) = omega arith
children_few (decision_node p v) = omega arith
