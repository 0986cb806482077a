-- What is read as a listing is the listing of exactly one tree.
use Rattle.std.proofs.Common.{◌≡◌, ℕ, zero, suc, ◌+◌, List, [], ◌∷◌, ◌++◌, None, Some, Result, Ok, Err, Bool, true, false, cond, refl, sym, ap, ◌∙◌, subst, arith, length, take, drop, ◌⊎◌, inr}
use Rattle.std.proofs.lemmas.List.{take-append-drop, length-take-le, length-append}
use Rattle.jxlm_bits.specs.Decoding.{Found, Meaning, Taken}
use Rattle.jxlm_bits.specs.ErrorKind.{ErrorKind, ErrorAt, UnlessMemory, ◌>>=◌}
use Rattle.jxlm_bits.specs.Grammar.{IsErrorAt}
use Rattle.jxlm_ma_tree.specs.Inner.DraftReading.{ListsTrees, is_endless}
use Rattle.jxlm_ma_tree.specs.Tree.{Shape, leaf, decision, Node, Config, leaf_node, decision_node, config_of, levels}
use Rattle.jxlm_ma_tree.specs.Inner.Queue.{IsTooDeepListing, ListsTooDeep}
use Rattle.jxlm_ma_tree.specs.TreeReading.{with_clusters, leaf_count, children, through, node_at, nodes_at, drafts_at, listing_at, limit_error, max_nodes, IsTooDeep, IsTreeAt}
use Rattle.jxlm_ma_tree.specs.declared.leaf.Leaf.{Leaf}
use Rattle.jxlm_ma_tree.proofs.Memory.{own_so}
use Rattle.jxlm_ma_tree.proofs.Listing.{Lists, lists-levels, levels-injective}

bind_ok : {A B : Type 0} (r : Result A ErrorAt) (f : A → Result B ErrorAt) (y : B) → (r >>= f) ≡ Ok y → (x : A) × (r ≡ Ok x) × (f x ≡ Ok y)
bind_ok (Ok x) f y h = (x, refl, h)
bind_ok (Err e) f y h = cc

pub same : {A : Type 0} (x y : A) (r : Result A ErrorAt) → r ≡ Ok x → r ≡ Ok y → y ≡ x
same x y r h k = cc

pub passed : {A : Type 0} (b : Bool) (e : ErrorAt) (r : Result A ErrorAt) (x : A) → cond b (Err e) r ≡ Ok x → r ≡ Ok x
passed true e r x h = cc
passed false e r x h = h

record Forest {L : Type 0} (n : ℕ) (ns : List (Node L)) : Type 0 where
  trees : List (Shape L)
  count : length trees ≡ n
  lists : Lists trees ns

two : {X : Type 0} (xs : List X) → length xs ≡ 2 → (a : X) × (b : X) × (xs ≡ a ∷ b ∷ [])
two [] h = absurd (omega (arith, h))
two (a ∷ []) h = absurd (omega (arith, h))
two (a ∷ (b ∷ [])) h = (a, b, refl)
two (a ∷ (b ∷ (c ∷ xs))) h = absurd (omega (arith, h))

forest : {L : Type 0} (ns : List (Node L)) (n : ℕ) → ListsTrees n ns → Forest n ns
forest [] zero h = record { trees = []; count = refl; lists = tt }
forest (n ∷ ns) zero h = absurd h
forest [] (suc m) h = absurd h
forest (leaf_node l ∷ ns) (suc m) h =
    let f = forest ns m h in
    record { trees = leaf l ∷ f.trees; count = ap suc f.count; lists = (refl, f.lists) }
forest (decision_node k v ∷ ns) (suc m) h =
    let f = forest ns (m + 2) h in
    let count = f.count in
    let ts = take m f.trees in
    let parts : ts ++ drop m f.trees ≡ f.trees = take-append-drop m f.trees in
    let front : length ts ≡ m = length-take-le m f.trees (omega (arith, count)) in
    let last = two (drop m f.trees) (omega (arith, count, front, length-append ts (drop m f.trees), ap length parts)) in
    let whole : f.trees ≡ ts ++ last.0 ∷ last.1 ∷ [] = sym parts ∙ ap (λ xs. ts ++ xs) last.2 in
    record { trees = decision k v last.0 last.1 ∷ ts; count = ap suc front; lists = ((refl, refl), subst (λ xs. Lists xs ns) whole f.lists) }

-- a tree has one leaf more than decisions, and so each of n
pub leaves_and_decisions : (ns : List (Node Leaf)) (n : ℕ) → ListsTrees n ns → leaf_count ns + leaf_count ns ≡ length ns + n
leaves_and_decisions [] zero h = refl
leaves_and_decisions (n ∷ ns) zero h = absurd h
leaves_and_decisions [] (suc m) h = absurd h
leaves_and_decisions (leaf_node l ∷ ns) (suc m) h = omega (arith, leaves_and_decisions ns m h)
leaves_and_decisions (decision_node k v ∷ ns) (suc m) h = omega (arith, leaves_and_decisions ns (m + 2) h)

clusters_close : (clusters : List ℕ) (k : ℕ) (ns : List (Node Leaf)) (n : ℕ) → ListsTrees n ns → ListsTrees n (with_clusters clusters k ns)
clusters_close clusters k [] zero h = h
clusters_close clusters k (n ∷ ns) zero h = absurd h
clusters_close clusters k [] (suc m) h = absurd h
clusters_close clusters k (leaf_node l ∷ ns) (suc m) h = clusters_close clusters (suc k) ns m h
clusters_close clusters k (decision_node property v ∷ ns) (suc m) h = clusters_close clusters k ns (m + 2) h

single : {L : Type 0} (ns : List (Node L)) → Forest 1 ns → (t : Shape L) × (levels t ≡ ns)
single {L} ns f = of_list f.trees f.count f.lists where
  of_list : (ts : List (Shape L)) → length ts ≡ 1 → Lists ts ns → (t : Shape L) × (levels t ≡ ns)
  of_list [] h l = absurd (omega (arith, h))
  of_list (t ∷ []) h l = (t, sym (lists-levels t ns l))
  of_list (t ∷ (u ∷ ts)) h l = absurd (omega (arith, h))

-- the tree that nodes make, whatever clusters its leaves get
pub tree_of_listing : (clusters : List ℕ) (ns : List (Node Leaf)) → ListsTrees 1 ns → (t : Shape Leaf) × (levels t ≡ with_clusters clusters 0 ns)
tree_of_listing clusters ns h = single (with_clusters clusters 0 ns) (forest (with_clusters clusters 0 ns) 1 (clusters_close clusters 0 ns 1 h))

children_close : (node : Node Leaf) (ns : List (Node Leaf)) (m : ℕ) → ListsTrees (m + children node) ns → ListsTrees (suc m) (node ∷ ns)
children_close (leaf_node l) ns m h = let e : m + 0 ≡ m = omega arith in rw e at h
children_close (decision_node k v) ns m h = h

module _ {S : Type 0} (d : Meaning S) (bytes : List ℕ) where
  nodes_close : (limit : ErrorKind) (room missing : ℕ) (s : S) (p : ℕ) (x : Taken (List (Node Leaf)) S) → nodes_at d bytes limit room missing s p ≡ Ok x → ListsTrees missing x.value
  unfolding nodes_at
  nodes_close limit zero zero s p x h = rw (same _ _ _ refl h) tt
  nodes_close limit zero (suc missing) s p x h = cc
  nodes_close limit (suc room) zero s p x h = rw (same _ _ _ refl h) tt
  nodes_close limit (suc room) (suc missing) s p x h =
      let a = bind_ok (node_at d bytes s p) _ x h in
      let b = bind_ok (nodes_at d bytes limit room (missing + children a.0.value) a.0.state a.0.position) _ x a.2 in
      rw (same _ _ _ refl b.2) (children_close a.0.value b.0.value missing (nodes_close limit room (missing + children a.0.value) a.0.state a.0.position b.0 b.1))

  pub drafts_close : (node_limit : ℕ) (s : S) (p : ℕ) (x : Found (List (Node Leaf))) → drafts_at d bytes node_limit s p ≡ Ok x → ListsTrees 1 x.value
  unfolding drafts_at
  drafts_close node_limit s p x h =
      let rest = passed (is_endless d s) _ _ x h in
      let b = bind_ok (through (Some p) (d.begin s bytes p)) _ x rest in
      let c = bind_ok (nodes_at d bytes (limit_error node_limit) (max_nodes node_limit) 1 b.0.value b.0.position) _ x b.2 in
      let e = bind_ok (through (Some c.0.position) (d.finalize c.0.state)) _ x c.2 in
      rw (same _ _ _ refl e.2) (nodes_close (limit_error node_limit) (max_nodes node_limit) 1 b.0.value b.0.position c.0 c.1)

  -- each listing that is read is that of a tree
  pub listing_of_tree : (node_limit p : ℕ) (x : Taken (List (Node Leaf)) S) → listing_at d bytes node_limit p ≡ Ok x → (t : Shape Leaf) × (levels t ≡ x.value)
  unfolding listing_at
  listing_of_tree node_limit p x h =
      let a = bind_ok (through None (d.parse bytes p 6)) _ x h in
      let c = bind_ok (drafts_at d bytes node_limit a.0.value a.0.position) _ x a.2 in
      let g = bind_ok (through None (d.parse bytes c.0.position (leaf_count c.0.value))) _ x c.2 in
      let nodes = with_clusters (d.cluster_map g.0.value) 0 c.0.value in
      let closes = drafts_close node_limit a.0.value a.0.position c.0 c.1 in
      let found : (t : Shape Leaf) × (levels t ≡ nodes) = single nodes (forest nodes 1 (clusters_close (d.cluster_map g.0.value) 0 c.0.value 1 closes)) in
      rw (same _ _ _ refl g.2) found

  -- and of no other
  pub one_tree : (node_limit depth_limit p : ℕ) (x y : Config S) (q z : ℕ) → IsTreeAt d bytes node_limit depth_limit p x q → IsTreeAt d bytes node_limit depth_limit p y z → x.tree ≡ y.tree
  one_tree node_limit depth_limit p x y q z h i = levels-injective x.tree y.tree (ap (λ (found : Taken (List (Node Leaf)) S). found.value) (same _ _ (listing_at d bytes node_limit p) i.reads h.reads))

  -- a tree that is read whole and is too deep
  pub too_deep_is_error : (node_limit depth_limit p : ℕ) (ns : List (Node Leaf)) (decoder : S) (q : ℕ) (error : ErrorKind) → listing_at d bytes node_limit p ≡ Ok (record { value = ns; state = decoder; position = q }) →
      IsTooDeepListing depth_limit ns error → UnlessMemory error (IsErrorAt (listing_at d bytes node_limit p) error q ⊎ IsTooDeep d bytes node_limit depth_limit p error q)
  too_deep_is_error node_limit depth_limit p ns decoder q error reads failed =
      own_so error (λ (deep : ListsTooDeep depth_limit ns error). inr (record { config = config_of deep.tree decoder; reads = rw deep.lists reads; beyond = deep.beyond; failure = deep.failure })) failed
