-- Trees of nodes and clusters: what was tested of them.
use Rattle.std.proofs.Common.{◌≡◌, ℕ, suc, List, [], ◌∷◌, ◌++◌, map, Result, Ok, Err, IfOk, sym, ap, subst}
use Rattle.std.proofs.lemmas.List.{map-append}
use Rattle.jxlm_tree.specs.ClusterTables.{in_cluster}
use Rattle.jxlm_tree.specs.Tree.{Shape, leaf, decision, levels}
use Rattle.jxlm_tree.specs.TreeReading.{with_clusters}
use Rattle.jxlm_ma_tree.specs.declared.leaf.Leaf.{Leaf}
use Rattle.jxlm_ma_tree.proofs.Listing.{Lists, lists-levels, queue_of-levels, queue_of-lists}
use Rattle.jxlm_encode_write.specs.Nodes.{node_of}
use Rattle.jxlm_encode_write.specs.declared.tree.EncodeNode.{EncodeNode}
use Rattle.jxlm_encode_write.specs.declared.tree.EncodeNode.TheVariants as given
use Rattle.jxlm_encode_streams.specs.TreeStreams.{clustered_nodes}
use Rattle.jxlm_encode.specs.Listing.{ListsOneTree}

-- a tree whose leaves all have cluster 0
abbrev drafted : Shape Leaf → Shape Leaf
drafted (leaf l) = leaf (in_cluster 0 l)
drafted (decision k value left right) = decision k value (drafted left) (drafted right)

trees_drafted : (clusters : List ℕ) (k : ℕ) (nodes : List EncodeNode) (ts : List (Shape Leaf)) → Lists ts (with_clusters clusters k (map node_of nodes)) → Lists (map drafted ts) (map node_of nodes)
trees_drafted clusters k [] [] h = tt
trees_drafted clusters k [] (t ∷ ts) h = absurd h
trees_drafted clusters k (given.Leaf predictor offset ∷ nodes) [] h = absurd h
trees_drafted clusters k (given.Decision property value ∷ nodes) [] h = absurd h
trees_drafted clusters k (given.Leaf predictor offset ∷ nodes) (leaf l ∷ ts) h = (ap (λ (m : Leaf). in_cluster 0 m) h.0, trees_drafted clusters (suc k) nodes ts h.1)
trees_drafted clusters k (given.Leaf predictor offset ∷ nodes) (decision p v a b ∷ ts) h = absurd h
trees_drafted clusters k (given.Decision property value ∷ nodes) (leaf l ∷ ts) h = absurd h
trees_drafted clusters k (given.Decision property value ∷ nodes) (decision p v a b ∷ ts) h = (
  h.0,
  subst (λ (xs : List (Shape Leaf)). Lists xs (map node_of nodes)) (map-append drafted ts (a ∷ b ∷ [])) (trees_drafted clusters k nodes (ts ++ a ∷ b ∷ []) h.1),
)

-- nodes that list a tree with clusters list one without
pub plainly_listed : (clusters : List ℕ) (nodes : List EncodeNode) (t : Shape Leaf) → levels t ≡ clustered_nodes nodes clusters → ListsOneTree nodes
plainly_listed clusters nodes t listed =
    let one : Lists (t ∷ []) (clustered_nodes nodes clusters) = subst (Lists (t ∷ [])) listed (queue_of-lists (levels t) (t ∷ []) (queue_of-levels t)) in
    (drafted t, sym (lists-levels (drafted t) (map node_of nodes) (trees_drafted clusters 0 nodes (t ∷ []) one)))

-- what follows of a result follows of it where it is one
pub if_ok : {A E : Type 0} (r : Result A E) (P Q : A → Type 0) → ((a : A) → P a → Q a) → IfOk r P → IfOk r Q
if_ok (Ok a) P Q f h = f a h
if_ok (Err e) P Q f h = tt
