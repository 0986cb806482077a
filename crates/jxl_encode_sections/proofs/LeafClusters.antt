-- The leaves of a tree are in the clusters that there are.
use Rattle.std.proofs.Common.{◌≡◌, inl, inr, ℕ, zero, suc, ◌+◌, ◌<◌, ◌≤◌, Bool, true, false, if◌then◌else◌, List, [], ◌∷◌, ◌++◌, length, map, get_or, Result, Ok, Err, sym, subst, arith}
use Rattle.std.proofs.lemmas.Bool.{cases_lt}
use Rattle.std.proofs.lemmas.List.{get_or_past}
use Rattle.jxlm_bits.specs.declared.decoder.DecoderError.{DecoderError}
use Rattle.jxlm_tree.specs.Tree.{AllLeaves, Node, Shape, leaf, decision, leaf_node, decision_node, levels}
use Rattle.jxlm_tree.specs.TreeReading.{with_clusters}
use Rattle.jxlm_ma_tree.specs.declared.leaf.Leaf.{Leaf}
use Rattle.jxlm_ma_tree.proofs.Listing.{Lists, queue_of-levels, queue_of-lists}
use Rattle.jxlm_encode_write.specs.Nodes.{node_of}
use Rattle.jxlm_encode_write.specs.declared.tree.EncodeNode.{EncodeNode}
use Rattle.jxlm_encode_write.specs.declared.tree.EncodeNode.TheVariants as given
use Rattle.jxl_coding.specs.Clusters.{are_used, count_of, greatest}

abbrev AllListed : (Leaf → Type 0) → List (Node Leaf) → Type 0
AllListed P [] = Unit {0}
AllListed P (leaf_node l ∷ ns) = P l × AllListed P ns
AllListed P (decision_node q w ∷ ns) = AllListed P ns

abbrev AllTrees : (Leaf → Type 0) → List (Shape Leaf) → Type 0
AllTrees P [] = Unit {0}
AllTrees P (t ∷ ts) = AllLeaves P t × AllTrees P ts

last_two : (P : Leaf → Type 0) (ts : List (Shape Leaf)) (a b : Shape Leaf) → AllTrees P (ts ++ a ∷ b ∷ []) → AllTrees P ts × (AllLeaves P a × AllLeaves P b)
last_two P [] a b h = (tt, (h.0, h.1.0))
last_two P (t ∷ ts) a b h = let rest = last_two P ts a b h.1 in ((h.0, rest.0), rest.1)

leaves_of_listed : (P : Leaf → Type 0) (ns : List (Node Leaf)) (ts : List (Shape Leaf)) → Lists ts ns → AllListed P ns → AllTrees P ts
leaves_of_listed P [] [] h all = tt
leaves_of_listed P [] (t ∷ ts) h all = absurd h
leaves_of_listed P (n ∷ ns) [] h all = absurd h
leaves_of_listed P (leaf_node m ∷ ns) (leaf l ∷ ts) h all = (subst P h.0 all.0, leaves_of_listed P ns ts h.1 all.1)
leaves_of_listed P (decision_node q w ∷ ns) (leaf l ∷ ts) h all = absurd h
leaves_of_listed P (leaf_node m ∷ ns) (decision p v a b ∷ ts) h all = absurd h
leaves_of_listed P (decision_node q w ∷ ns) (decision p v a b ∷ ts) h all =
    let rest = last_two P ts a b (leaves_of_listed P ns (ts ++ a ∷ b ∷ []) h.1 all) in (rest.1, rest.0)

module _ (clusters : List ℕ) (many : ℕ) (below : (k : ℕ) → get_or clusters k 0 < many) where
  listed_below : (k : ℕ) (nodes : List EncodeNode) → AllListed (λ l. l.cluster < many) (with_clusters clusters k (map node_of nodes))
  listed_below k [] = tt
  listed_below k (given.Decision property value ∷ nodes) = listed_below k nodes
  listed_below k (given.Leaf predictor offset ∷ nodes) = (below k, listed_below (suc k) nodes)

  -- each leaf has one of the clusters
  pub leaves_below : (t : Shape Leaf) (nodes : List EncodeNode) → levels t ≡ with_clusters clusters 0 (map node_of nodes) → AllLeaves (λ (l : Leaf). l.cluster < many) t
  leaves_below t nodes e =
      (leaves_of_listed (λ l. l.cluster < many) (levels t) (t ∷ []) (queue_of-lists (levels t) (t ∷ []) (queue_of-levels t)) (subst (AllListed (λ l. l.cluster < many)) (sym e) (listed_below 0 nodes))).0

greatest_above : (n : ℕ) (clusters : List ℕ) (k : ℕ) → k < n → get_or clusters k 0 ≤ greatest n clusters
unfolding greatest
greatest_above zero clusters k lt = absurd (omega (arith, lt))
greatest_above (suc n) clusters k lt =
    elim (cases_lt k n) [
      | inl low ↦ let rest = greatest_above n clusters k low in grind (arith, rest)
      | inr high ↦ let same : k ≡ n = omega (arith, lt, high) in grind (arith, same)
    ]

counted : (clusters : List ℕ) (many : ℕ) (b : Bool) (e : DecoderError) → ◌≡◌ {A = Result ℕ DecoderError} (if b then Ok (greatest (length clusters) clusters + 1) else Err e) (Ok many) → greatest (length clusters) clusters + 1 ≡ many
counted clusters many true e h = cc
counted clusters many false e h = cc

-- clusters are below their number
pub numbers_below : (clusters : List ℕ) (many : ℕ) → count_of clusters ≡ Ok many → (k : ℕ) → get_or clusters k 0 < many
numbers_below clusters many is k =
    let all : greatest (length clusters) clusters + 1 ≡ many = counted clusters many (are_used (greatest (length clusters) clusters) clusters) _ is in
    elim (cases_lt k (length clusters)) [
      | inl low ↦ let most = greatest_above (length clusters) clusters k low in omega (arith, all, most)
      | inr high ↦ let none : get_or clusters k 0 ≡ 0 = get_or_past clusters k 0 high in omega (arith, all, none)
    ]
