-- Trees written in entropy codes (ISO/IEC 18181-1, Modular: decoding of meta-adaptive trees).
use Rattle.std.specs.Prelude.{◌≡◌, ℕ, ◌+◌, ◌≤◌, List, length, true, IsOk}
use Rattle.std.specs.List.{All}
use Rattle.jxlm_tree.specs.Tree.{Shape, levels, node_count, depth, config_of}
use Rattle.jxlm_tree.specs.TreeReading.{IsTreeAt}
use Rattle.jxlm_ma_tree.specs.declared.leaf.Leaf.{Leaf}
use Rattle.jxlm_tree.specs.declared.ma.MaConfigParams.{MaConfigParams}
use Rattle.jxlm_encode_write.specs.Nodes.{has_token}
use Rattle.jxlm_encode_write.specs.Trees.{leaves_in}
use Rattle.jxlm_encode_write.specs.declared.tree.EncodeNode.{EncodeNode}
use Rattle.jxlm_encode_streams.specs.TreeStreams.{clustered_nodes}
use Rattle.jxlm_encode.specs.declared.error.EncodeError.{EncodeError}
use Rattle.jxlm_encode.specs.declared.error.EncodeError.TheVariants.{InvalidTransform, InvalidTree, OutOfMemory}
use Rattle.jxl_coding.specs.Clusters.{count_of}
use Rattle.jxl_coding.specs.Parse.{decoder_at, start_of}
use Rattle.jxl_coding.specs.Symbols.{Codes}
use Rattle.jxl_coding.specs.Tokens.{entropy}

-- The tree that these nodes list is at p, with the clusters and the decoder of these codes at its leaves, and ends at q:
-- under all limits that allow it.
abbrev pub IsWrittenTree : List EncodeNode → Codes → List ℕ → ℕ → ℕ → Type 0
IsWrittenTree nodes leaves bytes p q = (node_limit depth_limit : ℕ) (t : Shape Leaf) → levels t ≡ clustered_nodes nodes leaves.clusters →
    node_count t ≤ node_limit + 1 → depth t ≤ depth_limit →
    IsTreeAt (entropy decoder_at) bytes node_limit depth_limit p (config_of t (start_of leaves)) q

-- The nodes list this tree, whose leaves have these clusters in their order, and it is within these limits. A property has a
-- token, each leaf a cluster, and each cluster up to the greatest a leaf.
pub record IsClusteredTree (nodes : List EncodeNode) (clusters : List ℕ) (limits : MaConfigParams) (t : Shape Leaf) : Type 0 where
  pub listed : levels t ≡ clustered_nodes nodes clusters
  pub properties : All (λ n. has_token n ≡ true) nodes
  pub leaves : length clusters ≡ leaves_in nodes
  pub used : IsOk (count_of clusters)
  pub limit : node_count t ≤ limits.node_limit + 1
  pub within : depth t ≤ limits.depth_limit

-- there is no such tree, or memory is out
abbrev pub IsNoTree : List EncodeNode → List ℕ → MaConfigParams → EncodeError → Type 0
IsNoTree nodes clusters limits (InvalidTransform k) = ⊥
IsNoTree nodes clusters limits InvalidTree = (t : Shape Leaf) → IsClusteredTree nodes clusters limits t → ⊥
IsNoTree nodes clusters limits OutOfMemory = Unit {0}
