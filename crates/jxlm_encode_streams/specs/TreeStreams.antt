-- Trees whose tokens a decoder reads as a stream.
use Rattle.std.specs.Prelude.{◌≡◌, ℕ, ◌+◌, ◌^◌, ◌≤◌, List, [], ◌∷◌, map, slice_index, Ok}
use Rattle.std.specs.List.{flat_map}
use Rattle.jxlm_bits.specs.Decoding.{Asked, Found, Meaning}
use Rattle.jxlm_bit_writer.specs.ReadStreams.{IsRead}
use Rattle.jxlm_tree.specs.Tree.{Node, Shape, levels, depth, node_count, config_of}
use Rattle.jxlm_tree.specs.TreeReading.{with_clusters}
use Rattle.jxlm_tree.specs.TreeStands.{TreeStands}
use Rattle.jxlm_ma_tree.specs.declared.leaf.Leaf.{Leaf}
use Rattle.jxlm_encode_write.specs.Nodes.{node_of, tree_tokens}
use Rattle.jxlm_encode_write.specs.Trees.{leaves_in}
use Rattle.jxlm_encode_write.specs.declared.tree.EncodeNode.{EncodeNode}
use Rattle.jxlm_encode_write.specs.declared.tree.EncodeNode.TheVariants as given

-- the contexts of the tokens of a node
abbrev pub node_contexts : EncodeNode → List ℕ
node_contexts (given.Decision property value) = 1 ∷ 0 ∷ []
node_contexts (given.Leaf predictor offset) = 1 ∷ 2 ∷ 3 ∷ 4 ∷ 5 ∷ []

abbrev pub tree_contexts : List EncodeNode → List ℕ
tree_contexts nodes = flat_map node_contexts nodes

-- a read of a context, if contexts have these clusters
abbrev pub in_context : List ℕ → ℕ → Asked
in_context clusters context = record { cluster = slice_index clusters context; multiplier = 0 }

-- the nodes that are meant, where the leaves have these clusters in their order
abbrev pub clustered_nodes : List EncodeNode → List ℕ → List (Node Leaf)
clustered_nodes nodes clusters = with_clusters clusters 0 (map node_of nodes)

-- A tree is in the input if a decoder of six contexts is there and reads the tokens of its nodes, and then comes a decoder of
-- its leaves, which have its clusters in their order.
abbrev pub ReadTreeStands : {S : Type 0} → Meaning S → Type 0
ReadTreeStands {S} d = (bytes : List ℕ) (node_limit depth_limit p q r : ℕ) (t : Shape Leaf) (nodes : List EncodeNode) (own : Found S) (leaves : S) →
    levels t ≡ clustered_nodes nodes (d.cluster_map leaves) → d.parse bytes p 6 ≡ Ok own →
    IsRead d own.value bytes own.position (map (in_context (d.cluster_map own.value)) (tree_contexts nodes)) (tree_tokens nodes) q →
    d.parse bytes q (leaves_in nodes) ≡ Ok (record { value = leaves; position = r }) →
    node_count t ≤ 2 ^ 26 → node_count t ≤ node_limit + 1 → depth t ≤ depth_limit →
    TreeStands d bytes node_limit depth_limit p (config_of t leaves) r
