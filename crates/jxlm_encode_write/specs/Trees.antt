-- A tree as bits: the plain decoder of its nodes, their tokens, and the decoder of its leaves.
use Rattle.std.specs.Prelude.{ℕ, suc, List, [], ◌∷◌, ◌++◌}
use Rattle.jxlm_encode_write.specs.Nodes.{tree_tokens}
use Rattle.jxlm_encode_write.specs.Tokens.{decoder_bits, token_bits, gamma_decoder_bits, gamma_token_bits}
use Rattle.jxlm_encode_write.specs.declared.tree.EncodeNode.{EncodeNode}
use Rattle.jxlm_encode_write.specs.declared.tree.EncodeNode.TheVariants as given

-- how many of the nodes are leaves
abbrev pub leaves_in : List EncodeNode → ℕ
leaves_in [] = 0
leaves_in (given.Decision property value ∷ nodes) = leaves_in nodes
leaves_in (given.Leaf predictor offset ∷ nodes) = suc (leaves_in nodes)

-- with tokens of these widths, of the nodes and of the samples
abbrev pub tree_bits : List EncodeNode → ℕ → ℕ → List ℕ
tree_bits nodes own width = decoder_bits 6 own ++ (token_bits own (tree_tokens nodes) ++ decoder_bits (leaves_in nodes) width)

-- with gamma codes
abbrev pub gamma_tree_bits : List EncodeNode → List ℕ
gamma_tree_bits nodes = gamma_decoder_bits 6 ++ (gamma_token_bits (tree_tokens nodes) ++ gamma_decoder_bits (leaves_in nodes))
