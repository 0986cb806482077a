-- The tokens of nodes, written in the clusters of their contexts, are read.
use Rattle.std.proofs.Common.{◌≡◌, ℕ, zero, suc, ◌*◌, ◌<◌, ◌≤◌, List, [], ◌∷◌, length, map, get_or, Bool, true, false, Ok, refl, sym, ap, ◌∙◌, subst, arith}
use Rattle.std.specs.List.{All}
use Rattle.std.proofs.Math.ListN.{get_or-map}
use Rattle.std.proofs.lemmas.List.{length-map}
use Rattle.jxlm_bits.specs.Decoding.{Asked}
use Rattle.jxlm_bit_writer.specs.ReadStreams.{IsRead}
use Rattle.jxlm_bit_writer.specs.Writes.{Adds}
use Rattle.jxlm_bit_writer.specs.declared.token.Token.{Token}
use Rattle.jxlm_bit_writer.proofs.WriteLaws.{becomes}
use Rattle.jxlm_encode_write.specs.Nodes.{tree_tokens}
use Rattle.jxlm_encode_write.specs.declared.tree.EncodeNode.{EncodeNode}
use Rattle.jxlm_encode_write.specs.declared.tree.EncodeNode.TheVariants as given
use Rattle.jxlm_encode_streams.specs.TreeStreams.{in_context, tree_contexts}
use Rattle.jxl_coding.specs.Clusters.{are_used, count_of, greatest}
use Rattle.jxl_coding.specs.Parse.{decoder_at, start_of}
use Rattle.jxl_coding.specs.Tokens.{entropy}
use Rattle.jxl_coding_stream_write.specs.Codes.{codes_of}
use Rattle.jxl_coding_stream_write.specs.Streams.{AreAsked}
use Rattle.jxl_coding_stream_write.specs.declared.stream.StreamWriter.{StreamWriter}
use Rattle.jxl_coding_stream_write.proofs.WrittenStreams.{IsDecodedAt}
use Rattle.jxl_encode_tree.specs.Inner.Contexts.{AreNodesRead, cluster_count, cluster_in, clusters_in}

-- each cluster has a context
pub contexts_used : (separate : Bool) → count_of (clusters_in separate) ≡ Ok (cluster_count separate)
unfolding greatest are_used
contexts_used true = refl
contexts_used false = refl

cluster_below : (separate : Bool) (context : ℕ) → context < 6 → cluster_in separate context < cluster_count separate
cluster_below true context lt = lt
cluster_below false context lt = omega arith

-- the clusters of contexts
clusters_below : (separate : Bool) (nodes : List EncodeNode) → All (λ c. c < cluster_count separate) (map (cluster_in separate) (tree_contexts nodes))
clusters_below separate [] k d lt = absurd (omega (arith, lt))
clusters_below separate (given.Decision property value ∷ nodes) zero d lt = cluster_below separate 1 (omega arith)
clusters_below separate (given.Decision property value ∷ nodes) (suc zero) d lt = cluster_below separate 0 (omega arith)
clusters_below separate (given.Decision property value ∷ nodes) (suc (suc k)) d lt = clusters_below separate nodes k d (omega (arith, lt))
clusters_below separate (given.Leaf predictor offset ∷ nodes) zero d lt = cluster_below separate 1 (omega arith)
clusters_below separate (given.Leaf predictor offset ∷ nodes) (suc zero) d lt = cluster_below separate 2 (omega arith)
clusters_below separate (given.Leaf predictor offset ∷ nodes) (suc (suc zero)) d lt = cluster_below separate 3 (omega arith)
clusters_below separate (given.Leaf predictor offset ∷ nodes) (suc (suc (suc zero))) d lt = cluster_below separate 4 (omega arith)
clusters_below separate (given.Leaf predictor offset ∷ nodes) (suc (suc (suc (suc zero)))) d lt = cluster_below separate 5 (omega arith)
clusters_below separate (given.Leaf predictor offset ∷ nodes) (suc (suc (suc (suc (suc k))))) d lt = clusters_below separate nodes k d (omega (arith, lt))

-- tokens of the clusters of contexts
pub tokens_below : (separate : Bool) (nodes : List EncodeNode) (tokens : List Token) → map (λ t. t.cluster) tokens ≡ map (cluster_in separate) (tree_contexts nodes) →
    All (λ (t : Token). t.cluster < cluster_count separate) tokens
tokens_below separate nodes tokens are k d lt =
    let n = length-map tokens (λ t. t.cluster) in
    let m = ap length are in
    subst (λ (c : ℕ). c < cluster_count separate) (ap (λ (xs : List ℕ). get_or xs k d.cluster) (sym are) ∙ get_or-map (λ (t : Token). t.cluster) tokens k d)
    (clusters_below separate nodes k d.cluster (omega (arith, lt, n, m)))

-- there are at most five for a node
few_contexts : (nodes : List EncodeNode) → length (tree_contexts nodes) ≤ 5 * length nodes
few_contexts [] = omega arith
few_contexts (given.Decision property value ∷ nodes) = let rest = few_contexts nodes in omega (arith, rest)
few_contexts (given.Leaf predictor offset ∷ nodes) = let rest = few_contexts nodes in omega (arith, rest)

pub same_counts : (nodes : List EncodeNode) → length (tree_contexts nodes) ≡ length (tree_tokens nodes)
same_counts [] = refl
same_counts (given.Decision property value ∷ nodes) = ap (λ n. suc (suc n)) (same_counts nodes)
same_counts (given.Leaf predictor offset ∷ nodes) = ap (λ n. suc (suc (suc (suc (suc n))))) (same_counts nodes)

pub few_tokens : (nodes : List EncodeNode) (tokens : List Token) → map (λ t. t.value) tokens ≡ tree_tokens nodes → length tokens ≤ 5 * length nodes
few_tokens nodes tokens are =
    let n = length-map tokens (λ t. t.value) in
    let m = ap length are in
    let same = same_counts nodes in
    let few = few_contexts nodes in
    omega (arith, n, m, same, few)

-- what is asked for is the cluster of each context
contexts_asked : (separate : Bool) (nodes : List EncodeNode) → map (λ (a : Asked). a.cluster) (map (in_context (clusters_in separate)) (tree_contexts nodes)) ≡ map (cluster_in separate) (tree_contexts nodes)
contexts_asked separate [] = refl
contexts_asked separate (given.Decision property value ∷ nodes) = ap (λ (xs : List ℕ). cluster_in separate 1 ∷ cluster_in separate 0 ∷ xs) (contexts_asked separate nodes)
contexts_asked separate (given.Leaf predictor offset ∷ nodes) =
    ap (λ (xs : List ℕ). cluster_in separate 1 ∷ cluster_in separate 2 ∷ cluster_in separate 3 ∷ cluster_in separate 4 ∷ cluster_in separate 5 ∷ xs) (contexts_asked separate nodes)

module _ (separate : Bool) (nodes : List EncodeNode) (writer : StreamWriter) (tokens : List Token) (clusters : writer.clusters.items ≡ clusters_in separate)
    (values : map (λ t. t.value) tokens ≡ tree_tokens nodes) (of_contexts : map (λ t. t.cluster) tokens ≡ map (cluster_in separate) (tree_contexts nodes)) where
  asked : AreAsked (map (in_context writer.clusters.items) (tree_contexts nodes)) tokens
  asked = ap (λ (cs : List ℕ). map (λ (a : Asked). a.cluster) (map (in_context cs) (tree_contexts nodes))) clusters ∙ contexts_asked separate nodes ∙ sym of_contexts

  six : length writer.clusters.items ≡ 6
  six = ap length clusters ∙ length-map (0 ∷ 1 ∷ 2 ∷ 3 ∷ 4 ∷ 5 ∷ []) (cluster_in separate)

  -- a decoder and a stream were added
  pub nodes_read : (old new : List ℕ) → Adds old new (IsDecodedAt (length writer.clusters.items) (codes_of writer) tokens) → Adds old new (AreNodesRead nodes)
  nodes_read old new all =
      let contexts : List Asked = map (in_context writer.clusters.items) (tree_contexts nodes) in
      becomes all (λ bytes p q s. record {
        own = record { value = start_of (codes_of writer); position = s.0 };
        parsed = ap (λ (n : ℕ). decoder_at bytes p n) (sym six) ∙ s.1;
        read = subst (λ (vs : List ℕ). IsRead (entropy decoder_at) (start_of (codes_of writer)) bytes s.0 contexts vs q) values (s.2 contexts asked);
      })
