-- The nodes of one tree, counted off one by one.
use Rattle.std.proofs.Common.{◌≡◌, ℕ, zero, suc, ◌+◌, ◌-◌, ◌/◌, ◌<◌, ◌≤◌, List, [], ◌∷◌, ◌++◌, length, map, take, drop, get_or, refl, sym, ap, ◌∙◌, subst, arith}
use Rattle.std.specs.Prelude.{◌↔◌, slice_index}
use Rattle.std.proofs.lemmas.List.{take-append-drop, length-take-le, drop_all, drop_more, length-append, length-drop, length-map}
use Rattle.jxlm_tree.specs.Tree.{AllLeaves, Node, Shape, leaf, decision, leaf_node, decision_node, levels, node_count}
use Rattle.jxlm_tree.specs.TreeReading.{with_clusters}
use Rattle.jxlm_ma_tree.specs.declared.leaf.Leaf.{Leaf}
use Rattle.jxlm_ma_tree.proofs.Listing.{Lists, lists-levels, queue_of-levels, queue_of-lists}
use Rattle.jxlm_ma_tree.proofs.Shapes.{count_is, levels-count}
use Rattle.jxlm_encode_write.specs.Nodes.{node_of}
use Rattle.jxlm_encode_write.specs.Trees.{leaves_in}
use Rattle.jxlm_encode_write.specs.declared.tree.EncodeNode.{EncodeNode}
use Rattle.jxlm_encode_write.specs.declared.tree.EncodeNode.TheVariants as given
use Rattle.jxlm_encode.specs.Inner.Listing.{AreNodesOf, left_after}
use Rattle.jxlm_encode.specs.Listing.{ListsOneTree}

-- ---- a list of nodes that is one tree's, and its tree

listed_trees : (nodes : List EncodeNode) (ts : List (Shape Leaf)) → Lists ts (map node_of nodes) → AreNodesOf (length ts) nodes
listed_trees [] [] h = tt
listed_trees [] (t ∷ ts) h = absurd h
listed_trees (x ∷ nodes) [] h = absurd h
listed_trees (given.Leaf predictor offset ∷ nodes) (leaf l ∷ ts) h = listed_trees nodes ts h.1
listed_trees (given.Decision property value ∷ nodes) (leaf l ∷ ts) h = absurd h
listed_trees (given.Leaf predictor offset ∷ nodes) (decision p v a b ∷ ts) h = absurd h
listed_trees (given.Decision property value ∷ nodes) (decision p v a b ∷ ts) h = rw (length-append ts (a ∷ b ∷ [])) at (listed_trees nodes (ts ++ a ∷ b ∷ []) h.1)

listed_tree : (nodes : List EncodeNode) → ListsOneTree nodes → AreNodesOf 1 nodes
listed_tree nodes h = listed_trees nodes (h.0 ∷ []) (subst (Lists (h.0 ∷ [])) h.1 (queue_of-lists (levels h.0) (h.0 ∷ []) (queue_of-levels h.0)))

-- n trees with these nodes
record Forest (n : ℕ) (nodes : List (Node Leaf)) : Type 0 where
  trees : List (Shape Leaf)
  count : length trees ≡ n
  lists : Lists trees nodes

two : {X : Type 0} (xs : List X) → length xs ≡ 2 → (a : X) × (b : X) × (xs ≡ a ∷ b ∷ [])
two [] h = absurd (omega (arith, h))
two (a ∷ []) h = absurd (omega (arith, h))
two (a ∷ (b ∷ [])) h = (a, b, refl)
two (a ∷ (b ∷ (c ∷ xs))) h = absurd (omega (arith, h))

-- whatever clusters their leaves have, from number k on
forest : (clusters : List ℕ) (k : ℕ) (nodes : List EncodeNode) (n : ℕ) → AreNodesOf n nodes → Forest n (with_clusters clusters k (map node_of nodes))
forest clusters k [] zero h = record { trees = []; count = refl; lists = tt }
forest clusters k (x ∷ nodes) zero h = absurd h
forest clusters k [] (suc m) h = absurd h
forest clusters k (given.Leaf predictor offset ∷ nodes) (suc m) h =
    let f = forest clusters (suc k) nodes m h in
    record {
      trees = leaf (record { cluster = slice_index clusters k; predictor = predictor; offset = offset; multiplier = 1 }) ∷ f.trees;
      count = ap suc f.count;
      lists = (refl, f.lists);
    }
forest clusters k (given.Decision property value ∷ nodes) (suc m) h =
    let f = forest clusters k nodes (m + 2) h in
    let count = f.count in
    let ts : List (Shape Leaf) = take m f.trees in
    let parts : ts ++ drop m f.trees ≡ f.trees = take-append-drop m f.trees in
    let front : length ts ≡ m = length-take-le m f.trees (omega (arith, count)) in
    let both = length-append ts (drop m f.trees) in
    let whole_length = ap length parts in
    let last = two (drop m f.trees) (omega (arith, count, front, both, whole_length)) in
    let whole : f.trees ≡ ts ++ last.0 ∷ last.1 ∷ [] = sym parts ∙ ap (λ xs. ts ++ xs) last.2 in
    record { trees = decision property value last.0 last.1 ∷ ts; count = ap suc front; lists = ((refl, refl), subst (λ xs. Lists xs (with_clusters clusters k (map node_of nodes))) whole f.lists) }

single : (ns : List (Node Leaf)) → Forest 1 ns → (t : Shape Leaf) × (levels t ≡ ns)
single ns f = of_list f.trees f.count f.lists where
  of_list : (ts : List (Shape Leaf)) → length ts ≡ 1 → Lists ts ns → (t : Shape Leaf) × (levels t ≡ ns)
  of_list [] e l = absurd (omega (arith, e))
  of_list (t ∷ []) e l = (t, sym (lists-levels t ns l))
  of_list (t ∷ (u ∷ ts)) e l = absurd (omega (arith, e))

-- without clusters each leaf has cluster 0
without_clusters : (k : ℕ) (nodes : List EncodeNode) → with_clusters [] k (map node_of nodes) ≡ map node_of nodes
without_clusters k [] = refl
without_clusters k (given.Decision property value ∷ nodes) = ap (λ (ns : List (Node Leaf)). decision_node property value ∷ ns) (without_clusters k nodes)
without_clusters k (given.Leaf predictor offset ∷ nodes) =
    ap (λ (ns : List (Node Leaf)). leaf_node (record { cluster = 0; predictor = predictor; offset = offset; multiplier = 1 }) ∷ ns) (without_clusters (suc k) nodes)

tree_listed : (nodes : List EncodeNode) → AreNodesOf 1 nodes → ListsOneTree nodes
tree_listed nodes h = let one = single _ (forest [] 0 nodes 1 h) in (one.0, one.1 ∙ without_clusters 0 nodes)

-- the same tree, whatever clusters its leaves have
pub clustered_tree : (clusters : List ℕ) (nodes : List EncodeNode) → ListsOneTree nodes → (t : Shape Leaf) × (levels t ≡ with_clusters clusters 0 (map node_of nodes))
clustered_tree clusters nodes h = single _ (forest clusters 0 nodes 1 (listed_tree nodes h))

-- ---- counted off

-- before the first node
pub none_counted : (nodes : List EncodeNode) → AreNodesOf 1 (drop 0 nodes) ↔ ListsOneTree nodes
none_counted nodes = (tree_listed nodes, listed_tree nodes)

one_counted : (x : EncodeNode) (rest : List EncodeNode) (m : ℕ) (P : Type 0) → 0 < m → AreNodesOf m (x ∷ rest) ↔ P → AreNodesOf (left_after x m) rest ↔ P
one_counted x rest zero P some h = absurd (omega (arith, some))
one_counted (given.Decision property value) rest (suc m) P some h = subst (λ n. AreNodesOf n rest ↔ P) (let e : m + 2 ≡ suc m + 1 = omega arith in e) h
one_counted (given.Leaf predictor offset) rest (suc m) P some h = subst (λ n. AreNodesOf n rest ↔ P) (let e : m ≡ suc m - 1 = omega arith in e) h

-- the next node
pub counted_off : (nodes : List EncodeNode) (i : ℕ) (x : EncodeNode) (m : ℕ) (P : Type 0) → i < length nodes → x ≡ get_or nodes i x → 0 < m →
    AreNodesOf m (drop i nodes) ↔ P → AreNodesOf (left_after x m) (drop (i + 1) nodes) ↔ P
counted_off nodes i x m P lt is some h =
    let split : drop i nodes ≡ x ∷ drop (i + 1) nodes = drop_more nodes i x lt ∙ ap (λ (y : EncodeNode). y ∷ drop (i + 1) nodes) (sym is) in
    one_counted x (drop (i + 1) nodes) m P some (subst (λ (ns : List EncodeNode). AreNodesOf m ns ↔ P) split h)

-- no more are left than were looked at
pub left_bound : (x : EncodeNode) (m : ℕ) → left_after x m ≤ m + 1
left_bound (given.Decision property value) m = omega arith
left_bound (given.Leaf predictor offset) m = omega arith

none_missing : (ns : List EncodeNode) → 0 < length ns → AreNodesOf 0 ns → ⊥
none_missing [] some h = absurd (omega (arith, some))
none_missing (x ∷ rest) some h = h

-- a node too many
pub too_many : (nodes : List EncodeNode) (i m : ℕ) (P : Type 0) → i < length nodes → m ≡ 0 → AreNodesOf m (drop i nodes) ↔ P → P → ⊥
too_many nodes i m P lt none h p =
    let rest = length-drop i nodes in
    none_missing (drop i nodes) (omega (arith, rest, lt)) (subst (λ n. AreNodesOf n (drop i nodes)) none (h.1 p))

ended : (m : ℕ) → AreNodesOf m [] → m ≡ 0
ended zero h = refl
ended (suc m) h = absurd h

-- all nodes were looked at
pub all_counted : (nodes : List EncodeNode) (i m : ℕ) (P : Type 0) → length nodes ≤ i → AreNodesOf m (drop i nodes) ↔ P → (m ≡ 0) ↔ P
all_counted nodes i m P le h =
    let at_end : AreNodesOf m [] ↔ P = subst (λ (ns : List EncodeNode). AreNodesOf m ns ↔ P) (drop_all i nodes le) h in
    (λ e. at_end.0 (subst (λ n. AreNodesOf n []) (sym e) tt), λ p. ended m (at_end.1 p))

-- ---- counts

leaves_twice : (nodes : List EncodeNode) (n : ℕ) → AreNodesOf n nodes → leaves_in nodes + leaves_in nodes ≡ length nodes + n
leaves_twice [] zero h = refl
leaves_twice (x ∷ nodes) zero h = absurd h
leaves_twice [] (suc m) h = absurd h
leaves_twice (given.Leaf predictor offset ∷ nodes) (suc m) h = let rest = leaves_twice nodes m h in omega (arith, rest)
leaves_twice (given.Decision property value ∷ nodes) (suc m) h = let rest = leaves_twice nodes (m + 2) h in omega (arith, rest)

-- there is one leaf more than there are decisions
pub half_are_leaves : (nodes : List EncodeNode) → ListsOneTree nodes → leaves_in nodes ≡ length nodes / 2 + 1
half_are_leaves nodes h = let twice = leaves_twice nodes 1 (listed_tree nodes h) in omega (arith, twice)

-- a tree has as many nodes as are listed, whatever clusters its leaves have
pub clustered_counted : (clusters : List ℕ) (t : Shape Leaf) (nodes : List EncodeNode) → levels t ≡ with_clusters clusters 0 (map node_of nodes) → node_count t ≡ length nodes
clustered_counted clusters t nodes e = count_is clusters t (map node_of nodes) e ∙ length-map nodes node_of

-- a tree has as many nodes as are listed
pub nodes_counted : (t : Shape Leaf) (nodes : List EncodeNode) → levels t ≡ map node_of nodes → node_count t ≡ length nodes
nodes_counted t nodes e = sym (levels-count t) ∙ ap length e ∙ length-map nodes node_of

-- ---- leaves

abbrev AllListed : (Leaf → Type 0) → List (Node Leaf) → Type 0
AllListed P [] = Unit {0}
AllListed P (leaf_node l ∷ ns) = P l × AllListed P ns
AllListed P (decision_node q w ∷ ns) = AllListed P ns

abbrev AllTrees : (Leaf → Type 0) → List (Shape Leaf) → Type 0
AllTrees P [] = Unit {0}
AllTrees P (t ∷ ts) = AllLeaves P t × AllTrees P ts

last_two : (P : Leaf → Type 0) (ts : List (Shape Leaf)) (a b : Shape Leaf) → AllTrees P (ts ++ a ∷ b ∷ []) → AllTrees P ts × (AllLeaves P a × AllLeaves P b)
last_two P [] a b h = (tt, (h.0, h.1.0))
last_two P (t ∷ ts) a b h = let rest = last_two P ts a b h.1 in ((h.0, rest.0), rest.1)

leaves_of_listed : (P : Leaf → Type 0) (ns : List (Node Leaf)) (ts : List (Shape Leaf)) → Lists ts ns → AllListed P ns → AllTrees P ts
leaves_of_listed P [] [] h all = tt
leaves_of_listed P [] (t ∷ ts) h all = absurd h
leaves_of_listed P (n ∷ ns) [] h all = absurd h
leaves_of_listed P (leaf_node m ∷ ns) (leaf l ∷ ts) h all = (subst P h.0 all.0, leaves_of_listed P ns ts h.1 all.1)
leaves_of_listed P (decision_node q w ∷ ns) (leaf l ∷ ts) h all = absurd h
leaves_of_listed P (leaf_node m ∷ ns) (decision p v a b ∷ ts) h all = absurd h
leaves_of_listed P (decision_node q w ∷ ns) (decision p v a b ∷ ts) h all =
    let rest = last_two P ts a b (leaves_of_listed P ns (ts ++ a ∷ b ∷ []) h.1 all) in (rest.1, rest.0)

ones_listed : (clusters : List ℕ) (k : ℕ) (nodes : List EncodeNode) → AllListed (λ l. l.multiplier ≡ 1) (with_clusters clusters k (map node_of nodes))
ones_listed clusters k [] = tt
ones_listed clusters k (given.Decision property value ∷ nodes) = ones_listed clusters k nodes
ones_listed clusters k (given.Leaf predictor offset ∷ nodes) = (refl, ones_listed clusters (suc k) nodes)

-- each leaf has the multiplier 1, whatever its cluster is
pub ones_clustered : (clusters : List ℕ) (t : Shape Leaf) (nodes : List EncodeNode) → levels t ≡ with_clusters clusters 0 (map node_of nodes) → AllLeaves (λ l. l.multiplier ≡ 1) t
ones_clustered clusters t nodes e =
    (leaves_of_listed (λ l. l.multiplier ≡ 1) (levels t) (t ∷ []) (queue_of-lists (levels t) (t ∷ []) (queue_of-levels t)) (subst (AllListed (λ l. l.multiplier ≡ 1)) (sym e) (ones_listed clusters 0 nodes))).0

-- of a tree that an encoder is given
abbrev pub IsGivenLeaf : Leaf → Type 0
IsGivenLeaf l = (l.cluster ≡ 0) × (l.multiplier ≡ 1)

given_leaves : (nodes : List EncodeNode) → AllListed IsGivenLeaf (map node_of nodes)
given_leaves [] = tt
given_leaves (given.Decision property value ∷ nodes) = given_leaves nodes
given_leaves (given.Leaf predictor offset ∷ nodes) = ((refl, refl), given_leaves nodes)

-- each leaf has the only cluster, and the multiplier 1
pub leaves_given : (t : Shape Leaf) (nodes : List EncodeNode) → levels t ≡ map node_of nodes → AllLeaves IsGivenLeaf t
leaves_given t nodes e =
    (leaves_of_listed IsGivenLeaf (levels t) (t ∷ []) (queue_of-lists (levels t) (t ∷ []) (queue_of-levels t)) (subst (AllListed IsGivenLeaf) (sym e) (given_leaves nodes))).0
