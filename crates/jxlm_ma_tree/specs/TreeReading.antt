-- How a tree is read (ISO/IEC 18181-1, Modular: decoding of meta-adaptive trees), by what a decoder means.
use Rattle.std.specs.Prelude.{◌≡◌, ℕ, zero, suc, ◌+◌, ◌-◌, ◌*◌, ◌^◌, ◌<◌, ◌≤◌, ◌⊎◌, min, nat_lt, if◌then◌else◌, FitsSigned, List, [], ◌∷◌, slice_get, slice_index, Contains, Option, None, Some, Result, Ok, Err, IsOk, codes, unwrap_or, ok_or}
use Rattle.std.specs.Int.{w32}
use Rattle.std.specs.Result.{result_map_both}
use Rattle.jxlm_bits.specs.Decoding.{Found, Taken, Meaning}
use Rattle.jxlm_bits.specs.ErrorKind.{ErrorKind, BadEnum, BadProfile, BadTree, NoMemory, OfDecoder, ErrorAt, kind_of, UnlessMemory, ◌>>=◌}
use Rattle.jxlm_bits.specs.Grammar.{IsErrorAt}
use Rattle.jxlm_bits.specs.Numbers.{unpack}
use Rattle.jxlm_bits.specs.declared.decoder.DecoderError.{DecoderError}
use Rattle.jxlm_bits.specs.declared.error.Error.{Error}
use Rattle.jxlm_predictor.specs.Predictions.{predictors}
use Rattle.jxlm_ma_tree.specs.Tree.{Node, Config, leaf_node, decision_node, levels, depth}
use Rattle.jxlm_ma_tree.specs.declared.leaf.Leaf.{Leaf}
use Rattle.jxlm_predictor.specs.declared.predictor.Predictor.{Predictor}

-- what a call of the decoder gives; its error leaves the reader at that position
abbrev pub through : {X : Type 0} → Option ℕ → Result X DecoderError → Result X ErrorAt
through place = result_map_both (λ x. x) (λ e. record { error = OfDecoder e; position = place })

-- The leaves, numbered from k on in their order, have the clusters of their numbers. They are read without one, as 0.
abbrev pub with_clusters : List ℕ → ℕ → List (Node Leaf) → List (Node Leaf)
with_clusters clusters k [] = []
with_clusters clusters k (decision_node property value ∷ rest) = decision_node property value ∷ with_clusters clusters k rest
with_clusters clusters k (leaf_node l ∷ rest) = leaf_node (record l { cluster = slice_index clusters k }) ∷ with_clusters clusters (suc k) rest

-- how many leaves there are
abbrev pub leaf_count : List (Node Leaf) → ℕ
leaf_count [] = 0
leaf_count (decision_node k value ∷ rest) = leaf_count rest
leaf_count (leaf_node l ∷ rest) = suc (leaf_count rest)

-- how many nodes a node calls for after it
abbrev pub children : Node Leaf → ℕ
children (leaf_node l) = 0
children (decision_node k value) = 2

-- A tree has at most node_limit + 1 nodes, and at most 2 ^ 26.
abbrev pub max_nodes : ℕ → ℕ
max_nodes node_limit = min (2 ^ 26) (node_limit + 1)

-- the error of a tree with more nodes
abbrev pub limit_error : ℕ → ErrorKind
limit_error node_limit = if nat_lt (node_limit + 1) (2 ^ 26) then BadProfile (codes "MA tree limit exceeded") else BadTree

-- What is known of a leaf that was read: its cluster is one of the decoder's, and its numbers are in these ranges.
pub record IsLeafOf (clusters : List ℕ) (l : Leaf) : Type 0 where
  pub cluster : Contains clusters l.cluster
  pub offset : FitsSigned w32 l.offset
  pub least : 1 ≤ l.multiplier
  pub below : l.multiplier < 2 ^ 31

-- out of memory
abbrev pub IsOutOfMemory : ErrorKind → Type 0
IsOutOfMemory error = UnlessMemory error ⊥

module _ {S : Type 0} (d : Meaning S) (bytes : List ℕ) where
  -- the read of a context; its error leaves the reader where it was
  abbrev pub read_context : ℕ → S → ℕ → Result (Taken ℕ S) ErrorAt
  read_context context s p = through (Some p) (d.read s bytes p (slice_index (d.cluster_map s) context) 0)

  -- the predictor of a leaf, by its number
  unfoldable pub predictor_at : S → ℕ → Result (Taken Predictor S) ErrorAt
  predictor_at s p = do
    number ← read_context 2 s p
    let error : ErrorAt = record { error = BadEnum (codes "MaProperty") number.value; position = Some number.position }
    predictor ← ok_or (slice_get predictors number.value) error
    Ok (record { value = predictor; state = number.state; position = number.position })

  -- the multiplier of a leaf: (factor + 1) * 2 ^ log, below 2 ^ 31
  unfoldable pub multiplier_at : S → ℕ → Result (Taken ℕ S) ErrorAt
  multiplier_at s p = do
    log ← read_context 4 s p
    if nat_lt 30 log.value then Err (record { error = BadTree; position = Some log.position }) else (do
      factor ← read_context 5 log.state log.position
      if nat_lt (2 ^ (31 - log.value) - 2) factor.value
          then Err (record { error = BadTree; position = Some factor.position }) else
          Ok (record { value = (factor.value + 1) * 2 ^ log.value; state = factor.state; position = factor.position }))

  -- a leaf: predictor, offset and multiplier; its cluster comes later
  unfoldable pub leaf_at : S → ℕ → Result (Taken Leaf S) ErrorAt
  leaf_at s p = do
    predictor ← predictor_at s p
    offset ← read_context 3 predictor.state predictor.position
    multiplier ← multiplier_at offset.state offset.position
    let l : Leaf = record { cluster = 0; predictor = predictor.value; offset = unpack offset.value; multiplier = multiplier.value }
    Ok (record { value = l; state = multiplier.state; position = multiplier.position })

  -- a node: 0 comes before a leaf, and k + 1 before a decision on property k, which its value follows
  unfoldable pub node_at : S → ℕ → Result (Taken (Node Leaf) S) ErrorAt
  node_at s p = do
    kind ← read_context 1 s p
    of_kind kind.value kind.state kind.position
    where
      of_kind : ℕ → S → ℕ → Result (Taken (Node Leaf) S) ErrorAt
      of_kind zero s p = do
        read ← leaf_at s p
        Ok (record { value = leaf_node read.value; state = read.state; position = read.position })
      of_kind (suc k) s p = do
        value ← read_context 0 s p
        Ok (record { value = decision_node k (unpack value.value); state = value.state; position = value.position })

  -- `missing` nodes, and those that they call for, of which `room` may be read; one more is the error `limit`
  unfoldable pub nodes_at : ErrorKind → ℕ → ℕ → S → ℕ → Result (Taken (List (Node Leaf)) S) ErrorAt
  nodes_at limit room zero s p = Ok (record { value = []; state = s; position = p })
  nodes_at limit zero (suc missing) s p = Err (record { error = limit; position = Some p })
  nodes_at limit (suc room) (suc missing) s p = do
    first ← node_at s p
    others ← nodes_at limit room (missing + children first.value) first.state first.position
    Ok (record { value = first.value ∷ others.value; state = others.state; position = others.position })

  -- the nodes of a tree by a decoder before its tokens; if nodes begin with a single token, not 0, none is a leaf
  unfoldable pub drafts_at : ℕ → S → ℕ → Result (Found (List (Node Leaf))) ErrorAt
  drafts_at node_limit s p =
      let single = d.single_token s (slice_index (d.cluster_map s) 1) in
      if nat_lt 0 (unwrap_or single 0) then Err (record { error = BadTree; position = Some p }) else (do
        start ← through (Some p) (d.begin s bytes p)
        nodes ← nodes_at (limit_error node_limit) (max_nodes node_limit) 1 start.value start.position
        ended ← through (Some nodes.position) (d.finalize nodes.state)
        Ok (record { value = nodes.value; position = nodes.position }))

  -- at a position: a decoder of six contexts, the nodes level by level, and a decoder with a context for each leaf
  unfoldable pub listing_at : ℕ → ℕ → Result (Taken (List (Node Leaf)) S) ErrorAt
  listing_at node_limit p = do
    decoder ← through None (d.parse bytes p 6)
    nodes ← drafts_at node_limit decoder.value decoder.position
    leaves ← through None (d.parse bytes nodes.position (leaf_count nodes.value))
    let listing = with_clusters (d.cluster_map leaves.value) 0 nodes.value
    Ok (record { value = listing; state = leaves.value; position = leaves.position })

  -- The tree's own lists and nodes are out of memory only after the decoder of its nodes was read.
  abbrev pub MemoryGives : {X : Type 0} → ℕ → Result X Error → Type 0
  MemoryGives p (Ok x) = Unit {0}
  MemoryGives p (Err e) = kind_of e ≡ NoMemory → IsOk (d.parse bytes p 6)

  module _ (limit depth_limit : ℕ) (p : ℕ) where
    -- from position p to q stand the nodes of this tree, level by level, and the decoder of its leaves' clusters
    pub record IsTreeAt (config : Config S) (q : ℕ) : Type 0 where
      pub reads : listing_at limit p ≡ Ok (record { value = levels config.tree; state = config.decoder; position = q })
      pub within : depth config.tree ≤ depth_limit

    -- the tree at position p is too deep, and q is the position after it
    pub record IsTooDeep (error : ErrorKind) (q : ℕ) : Type 0 where
      pub config : Config S
      pub reads : listing_at limit p ≡ Ok (record { value = levels config.tree; state = config.decoder; position = q })
      pub beyond : depth_limit < depth config.tree
      pub failure : error ≡ BadProfile (codes "decoded MA tree is too deep")

    -- What reading a tree returns, and where it leaves the reader: the tree, or the error of the first check that
    -- fails; out of memory may come at any time.
    abbrev pub TreeGives : Result (Config S) Error → ℕ → Type 0
    TreeGives (Ok config) q = IsTreeAt config q
    TreeGives (Err e) q = UnlessMemory (kind_of e) (IsErrorAt (listing_at limit p) (kind_of e) q ⊎ IsTooDeep (kind_of e) q)
