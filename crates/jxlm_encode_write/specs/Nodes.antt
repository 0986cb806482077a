-- Trees as an encoder is given them: nodes and their tokens (ISO/IEC 18181-1, Modular: meta-adaptive trees).
use Rattle.std.specs.Prelude.{ℕ, suc, ◌+◌, ◌*◌, ◌^◌, ℤ, pos, negsuc, List, [], ◌∷◌, Bool, true, nat_lt, ◌-◌}
use Rattle.std.specs.List.{flat_map}
use Rattle.jxlm_tree.specs.Tree.{Node, leaf_node, decision_node}
use Rattle.jxlm_ma_tree.specs.declared.leaf.Leaf.{Leaf}
use Rattle.jxlm_predictor.specs.Predictions.{number_of}
use Rattle.jxlm_encode_write.specs.declared.tree.EncodeNode.{EncodeNode}
use Rattle.jxlm_encode_write.specs.declared.tree.EncodeNode.TheVariants as given

-- the token of a signed number: 2k for k, and 2k + 1 for -k - 1
abbrev pub packed_number : ℤ → ℕ
packed_number (pos k) = 2 * k
packed_number (negsuc k) = 2 * k + 1

-- the node that is meant: a leaf has the only cluster, and the multiplier 1
abbrev pub node_of : EncodeNode → Node Leaf
node_of (given.Decision property value) = decision_node property value
node_of (given.Leaf predictor offset) = leaf_node (record { cluster = 0; predictor = predictor; offset = offset; multiplier = 1 })

-- the tokens of a node
abbrev pub node_tokens : EncodeNode → List ℕ
node_tokens (given.Decision property value) = suc property ∷ packed_number value ∷ []
node_tokens (given.Leaf predictor offset) = 0 ∷ number_of predictor ∷ packed_number offset ∷ 0 ∷ 0 ∷ []

-- the tokens of nodes, one after another
abbrev pub tree_tokens : List EncodeNode → List ℕ
tree_tokens nodes = flat_map node_tokens nodes

-- the token of the node's property is a number of 32 bits
abbrev pub has_token : EncodeNode → Bool
has_token (given.Decision property value) = nat_lt property (2 ^ 32 - 1)
has_token (given.Leaf predictor offset) = true
