-- Trees whose tokens are read one after another stand.
use Rattle.std.proofs.Common.{◌≡◌, ℕ, zero, suc, ◌+◌, ◌<◌, List, [], ◌∷◌, length, map, drop, replicate, Some, refl, sym, ap, ◌∙◌, subst, arith}
use Rattle.std.proofs.Math.Seq.{drop-cons}
use Rattle.std.proofs.Math.ListN.{drop_of_length-le}
use Rattle.std.specs.Prelude.{slice_get, slice_index}
use Rattle.std.specs.List.{Contains}
use Rattle.std.proofs.lemmas.List.Elements.{Contains-get_or}
use Rattle.jxlm_bits.specs.Decoding.{Asked, Found, IsLawful, Meaning}
use Rattle.jxlm_tree.specs.Tree.{Node, decision_node, levels}
use Rattle.jxlm_tree.specs.TreeReading.{with_clusters}
use Rattle.jxlm_tree.specs.TreeStands.{TokenStands, NodesStand, leaf_clusters}
use Rattle.jxlm_ma_tree.specs.declared.leaf.Leaf.{Leaf}
use Rattle.jxlm_predictor.specs.Predictions.{number_of, predictors}
use Rattle.jxlm_predictor.specs.declared.predictor.Predictor.{Predictor}
use Rattle.jxlm_predictor.proofs.Numbers.{found_by_number}
use Rattle.jxlm_encode_write.specs.Nodes.{packed_number, node_of, tree_tokens}
use Rattle.jxlm_encode_write.specs.Trees.{leaves_in}
use Rattle.jxlm_encode_write.specs.declared.tree.EncodeNode.{EncodeNode}
use Rattle.jxlm_encode_write.specs.declared.tree.EncodeNode.TheVariants as given
use Rattle.jxlm_encode_write.proofs.TreeLaws.{unpack_packed}
use Rattle.jxlm_encode_streams.specs.TreeStreams.{clustered_nodes, tree_contexts, in_context, ReadTreeStands}
use Rattle.jxlm_encode_streams.proofs.ReadStreams.{Chain, chain_of}

module _ {S : Type 0} (d : Meaning S) (lawful : IsLawful d) (bytes : List ℕ) (cs : List ℕ) (six : length cs ≡ 6) where
  abbrev ask : ℕ → Asked
  ask context = in_context cs context

  -- a token was read, and the others follow
  record Step (a : Found S) (context token : ℕ) (asked : List Asked) (tokens : List ℕ) (u : S) (q : ℕ) : Type 0 where
    next : Found S
    stands : TokenStands d bytes context a token next
    kept : d.cluster_map next.value ≡ cs
    others : Chain d bytes asked tokens next.value next.position u q

  step : (a : Found S) (context token : ℕ) (asked : List Asked) (tokens : List ℕ) (u : S) (q : ℕ) → d.cluster_map a.value ≡ cs → context < 6 →
      Chain d bytes (ask context ∷ asked) (token ∷ tokens) a.value a.position u q → Step a context token asked tokens u q
  step a context token asked tokens u q is lt c =
      let has : Contains (d.cluster_map a.value) (slice_index cs context) = subst (λ (xs : List ℕ). Contains xs (slice_index cs context)) (sym is) (Contains-get_or cs context 0 (omega (arith, lt, six))) in
      record {
        next = record { value = c.0; position = c.1 };
        stands = ap (λ (xs : List ℕ). d.read a.value bytes a.position (slice_index xs context) 0) is ∙ c.2;
        kept = (lawful.read_keeps a.value bytes a.position (slice_index cs context) 0 (record { value = token; state = c.0; position = c.1 }) has c.2).clusters ∙ is;
        others = c.3;
      }

  -- whatever clusters the leaves have, from number k on
  nodes_read : (clusters : List ℕ) (k : ℕ) (nodes : List EncodeNode) (a : Found S) (u : S) (q : ℕ) → d.cluster_map a.value ≡ cs → Chain d bytes (map ask (tree_contexts nodes)) (tree_tokens nodes) a.value a.position u q →
      NodesStand d bytes a (with_clusters clusters k (map node_of nodes)) (record { value = u; position = q })
  nodes_read clusters k [] a u q is c = last a c.1 c.2
    where
      last : (a : Found S) → a.value ≡ u → a.position ≡ q → record { value = u; position = q } ≡ a
      last a e f = sym (ap (λ (x : S). record { value = x; position = a.position }) e ∙ ap (λ (x : ℕ). record { value = u; position = x }) f)
  nodes_read clusters k (given.Decision property value ∷ nodes) a u q is c =
      let s1 = step a 1 (suc property) (ask 0 ∷ map ask (tree_contexts nodes)) (packed_number value ∷ tree_tokens nodes) u q is (omega arith) c in
      let s2 = step s1.next 0 (packed_number value) (map ask (tree_contexts nodes)) (tree_tokens nodes) u q s1.kept (omega arith) s1.others in (
        s2.next,
        (s1.next, packed_number value, s1.stands, s2.stands, sym (unpack_packed value)),
        nodes_read clusters k nodes s2.next u q s2.kept s2.others,
      )
  nodes_read clusters k (given.Leaf predictor offset ∷ nodes) a u q is c =
      let ks : List Asked = map ask (tree_contexts nodes) in
      let ts : List ℕ = tree_tokens nodes in
      let s1 = step a 1 0 (ask 2 ∷ ask 3 ∷ ask 4 ∷ ask 5 ∷ ks) (number_of predictor ∷ packed_number offset ∷ 0 ∷ 0 ∷ ts) u q is (omega arith) c in
      let s2 = step s1.next 2 (number_of predictor) (ask 3 ∷ ask 4 ∷ ask 5 ∷ ks) (packed_number offset ∷ 0 ∷ 0 ∷ ts) u q s1.kept (omega arith) s1.others in
      let s3 = step s2.next 3 (packed_number offset) (ask 4 ∷ ask 5 ∷ ks) (0 ∷ 0 ∷ ts) u q s2.kept (omega arith) s2.others in
      let s4 = step s3.next 4 0 (ask 5 ∷ ks) (0 ∷ ts) u q s3.kept (omega arith) s3.others in
      let s5 = step s4.next 5 0 ks ts u q s4.kept (omega arith) s4.others in (
        s5.next,
        (
          s1.next,
          s1.stands,
          record {
            number = number_of predictor;
            after_number = s2.next;
            number_stands = s2.stands;
            predictor = found_by_number predictor;
            offset_token = packed_number offset;
            after_offset = s3.next;
            offset_stands = s3.stands;
            offset = sym (unpack_packed offset);
            log = 0;
            after_log = s4.next;
            log_stands = s4.stands;
            factor = 0;
            factor_stands = s5.stands;
            multiplier = refl;
            below = omega arith;
          },
        ),
        nodes_read clusters (suc k) nodes s5.next u q s5.kept s5.others,
      )

-- the clusters of the leaves, from number k on
clusters_are : (clusters : List ℕ) (k : ℕ) (nodes : List EncodeNode) → length clusters ≡ k + leaves_in nodes → leaf_clusters (with_clusters clusters k (map node_of nodes)) ≡ drop k clusters
clusters_are clusters k [] h = sym (drop_of_length-le clusters (omega (arith, h)))
clusters_are clusters k (given.Decision property value ∷ nodes) h = clusters_are clusters k nodes h
clusters_are clusters k (given.Leaf predictor offset ∷ nodes) h =
    ap (λ (cs : List ℕ). slice_index clusters k ∷ cs) (clusters_are clusters (suc k) nodes (omega (arith, h))) ∙ sym (drop-cons clusters k 0 (omega (arith, h)))

pub read_tree_stands : {S : Type 0} (d : Meaning S) → IsLawful d → ReadTreeStands d
read_tree_stands {S} d lawful bytes node_limit depth_limit p q r t nodes own leaves listed parsed read leaf_parsed most limit within =
    let first : Found S = record { value = read.first; position = read.start } in
    let six : length (d.cluster_map own.value) ≡ 6 = lawful.parse_clusters bytes p 6 own parsed in
    let kept : d.cluster_map read.first ≡ d.cluster_map own.value = (lawful.begin_keeps own.value bytes own.position (record { value = read.first; position = read.start }) read.begins).clusters in
    let chain = chain_of d bytes (map (in_context (d.cluster_map own.value)) (tree_contexts nodes)) (tree_tokens nodes) read.first read.start read.last q read.all in
    let many : length (d.cluster_map leaves) ≡ leaves_in nodes = lawful.parse_clusters bytes q (leaves_in nodes) (record { value = leaves; position = r }) leaf_parsed in
    let clusters : leaf_clusters (levels t) ≡ d.cluster_map leaves = ap leaf_clusters listed ∙ clusters_are (d.cluster_map leaves) 0 nodes (omega (arith, many)) in
    let count : length (leaf_clusters (levels t)) ≡ leaves_in nodes = ap length clusters ∙ many in
    record {
      decoder = own;
      decoder_stands = parsed;
      first = record { value = read.first; position = read.start };
      begins = read.begins;
      last = record { value = read.last; position = q };
      nodes = rw listed (nodes_read d lawful bytes (d.cluster_map own.value) six (d.cluster_map leaves) 0 nodes (record { value = read.first; position = read.start }) read.last q kept chain);
      ends = read.accepts;
      leaves = rw count leaf_parsed;
      clusters = clusters;
      most = most;
      limit = limit;
      within = within;
    }

index_zeros : (n k : ℕ) → slice_index (replicate n 0) k ≡ 0
index_zeros zero k = refl
index_zeros (suc n) zero = refl
index_zeros (suc n) (suc k) = index_zeros n k

with_zeros : (n : ℕ) (k : ℕ) (nodes : List EncodeNode) → with_clusters (replicate n 0) k (map node_of nodes) ≡ map node_of nodes
with_zeros n k [] = refl
with_zeros n k (given.Decision property value ∷ nodes) = ap (λ (ns : List (Node Leaf)). decision_node property value ∷ ns) (with_zeros n k nodes)
with_zeros n k (given.Leaf predictor offset ∷ nodes) = rw (index_zeros n k, with_zeros n (suc k) nodes) refl

-- where all leaves have cluster 0, the nodes are as they were given
pub zeros_clustered : (nodes : List EncodeNode) → clustered_nodes nodes (replicate (leaves_in nodes) 0) ≡ map node_of nodes
zeros_clustered nodes = with_zeros (leaves_in nodes) 0 nodes
