-- The contexts of a tree's tokens, and their clusters.
use Rattle.std.specs.Prelude.{◌≡◌, ℕ, List, [], ◌∷◌, map, Bool, if◌then◌else◌, Ok}
use Rattle.jxlm_bits.specs.Decoding.{Found}
use Rattle.jxlm_bit_writer.specs.ReadStreams.{IsRead}
use Rattle.jxlm_encode_write.specs.Nodes.{tree_tokens}
use Rattle.jxlm_encode_write.specs.declared.tree.EncodeNode.{EncodeNode}
use Rattle.jxlm_encode_streams.specs.TreeStreams.{in_context, tree_contexts}
use Rattle.jxl_coding.specs.Parse.{decoder_at}
use Rattle.jxl_coding.specs.Tokens.{Entropy, entropy}

-- the cluster of a context, where contexts have codes of their own or not
abbrev pub cluster_in : Bool → ℕ → ℕ
cluster_in separate context = if separate then context else 0

-- how many clusters there are then
abbrev pub cluster_count : Bool → ℕ
cluster_count separate = if separate then 6 else 1

-- those of the six contexts
abbrev pub clusters_in : Bool → List ℕ
clusters_in separate = map (cluster_in separate) (0 ∷ 1 ∷ 2 ∷ 3 ∷ 4 ∷ 5 ∷ [])

-- a decoder of six contexts is at p, and reads the tokens of these nodes up to q
pub record AreNodesRead (nodes : List EncodeNode) (bytes : List ℕ) (p q : ℕ) : Type 0 where
  pub own : Found Entropy
  pub parsed : decoder_at bytes p 6 ≡ Ok own
  pub read : IsRead (entropy decoder_at) own.value bytes own.position (map (in_context own.value.codes.clusters) (tree_contexts nodes)) (tree_tokens nodes) q
