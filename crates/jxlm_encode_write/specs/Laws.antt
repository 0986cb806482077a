-- What was written stands in the bytes, as a reader defines it.
use Rattle.std.specs.Prelude.{◌≡◌, ℕ, ◌+◌, ◌^◌, ◌<◌, ◌≤◌, List, length, map, false, Ok}
use Rattle.std.specs.List.{All}
use Rattle.jxlm_header.specs.Header.{header}
use Rattle.jxlm_tree.specs.Tree.{Shape, levels, node_count, depth, config_of}
use Rattle.jxlm_tree.specs.TreeStands.{TreeStands}
use Rattle.jxlm_ma_tree.specs.declared.leaf.Leaf.{Leaf}
use Rattle.jxlm_plain.specs.Plain.{plain, plain2}
use Rattle.jxlm_transform.specs.Transforms.{Transform, OfRct, OfPalette, OfSqueeze, IsRct, IsSqueeze}
use Rattle.jxlm_weighted.specs.WeightsHeader.{default_weights}
use Rattle.jxlm_bit_writer.specs.Written.{digits, HasBits}
use Rattle.jxlm_encode_write.specs.Headers.{header_bits}
use Rattle.jxlm_encode_write.specs.Nodes.{node_of, tree_tokens}
use Rattle.jxlm_encode_write.specs.Tokens.{one_cluster, gamma_bits, one_gamma_cluster}
use Rattle.jxlm_encode_write.specs.Trees.{leaves_in, tree_bits, gamma_tree_bits}
use Rattle.jxlm_encode_write.specs.declared.tree.EncodeNode.{EncodeNode}

-- a colour transform, or a squeeze, whose fields are in their ranges
abbrev pub IsWritten : Transform → Type 0
IsWritten (OfRct t) = IsRct t
IsWritten (OfPalette t) = ⊥
IsWritten (OfSqueeze steps) = IsSqueeze steps

-- a header without a global tree, with the default weights, and with these transforms
abbrev pub HeadersStand : Type 0
HeadersStand = (bytes : List ℕ) (p : ℕ) (ts : List Transform) → length ts ≤ 273 → All IsWritten ts → HasBits bytes p (header_bits ts) →
    header.Stands bytes p (record { use_global_tree = false; wp_params = default_weights; transform = ts }) (p + length (header_bits ts))

-- the tree that is listed, within its limits, with a plain decoder of one cluster
abbrev pub TreesStand : Type 0
TreesStand = (bytes : List ℕ) (p own width node_limit depth_limit : ℕ) (t : Shape Leaf) (nodes : List EncodeNode) → levels t ≡ map node_of nodes →
    own ≤ 32 → width ≤ 32 → All (λ v. v < 2 ^ own) (tree_tokens nodes) → node_count t ≤ 2 ^ 26 → node_count t ≤ node_limit + 1 → depth t ≤ depth_limit →
    HasBits bytes p (tree_bits nodes own width) →
    TreeStands plain bytes node_limit depth_limit p (config_of t (one_cluster (leaves_in nodes) width)) (p + length (tree_bits nodes own width))

-- a token of the one cluster, under whatever multiplier
abbrev pub TokensAreRead : Type 0
TokensAreRead = (contexts width : ℕ) (bytes : List ℕ) (p m v : ℕ) → v < 2 ^ width → HasBits bytes p (digits width v) →
    plain.read (one_cluster contexts width) bytes p 0 m ≡ Ok (record { value = v; state = one_cluster contexts width; position = p + width })

-- the same of the second format, with a decoder of one gamma cluster: the tree
abbrev pub GammaTreesStand : Type 0
GammaTreesStand = (bytes : List ℕ) (p node_limit depth_limit : ℕ) (t : Shape Leaf) (nodes : List EncodeNode) → levels t ≡ map node_of nodes →
    All (λ v. v < 2 ^ 32) (tree_tokens nodes) → node_count t ≤ 2 ^ 26 → node_count t ≤ node_limit + 1 → depth t ≤ depth_limit →
    HasBits bytes p (gamma_tree_bits nodes) →
    TreeStands plain2 bytes node_limit depth_limit p (config_of t (one_gamma_cluster (leaves_in nodes))) (p + length (gamma_tree_bits nodes))

-- and a token
abbrev pub GammaTokensAreRead : Type 0
GammaTokensAreRead = (contexts : ℕ) (bytes : List ℕ) (p m v : ℕ) → v < 2 ^ 32 → HasBits bytes p (gamma_bits v) →
    plain2.read (one_gamma_cluster contexts) bytes p 0 m ≡ Ok (record { value = v; state = one_gamma_cluster contexts; position = p + length (gamma_bits v) })
