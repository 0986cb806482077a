-- A tree is read where it stands, and stands where it is read.
use Rattle.std.proofs.Common.{◌≡◌, ℕ, zero, suc, ◌+◌, ◌-◌, ◌*◌, ◌^◌, ◌<◌, ◌≤◌, List, [], ◌∷◌, ◌++◌, ◌⊎◌, inl, inr, None, Some, Option, Result, Ok, Err, Bool, true, false, cond, nat_lt, refl, sym, ap, ◌∙◌, subst, arith, length, drop, pow_mono, pow-add}
use Rattle.std.specs.Prelude.{slice_get, slice_index, Contains, codes, ok_or, unwrap_or}
use Rattle.std.proofs.lemmas.Bool.{cases_lt, le-ltb, ltb-false}
use Rattle.std.proofs.lemmas.List.{length-append}
use Rattle.std.proofs.lemmas.List.Elements.{Contains-get_or}
use Rattle.std.proofs.Math.ListN.{drop_of_length-le}
use Rattle.std.proofs.Math.Nat.{lt_of_mul-lt-mul_right}
use Rattle.std.proofs.Math.Seq.{drop-cons}
use Rattle.jxlm_bits.specs.Decoding.{Found, IsLawful, Keeps, Meaning, Taken}
use Rattle.jxlm_bits.specs.ErrorKind.{ErrorKind, BadEnum, ErrorAt, ◌>>=◌}
use Rattle.jxlm_bits.specs.declared.decoder.DecoderError.{DecoderError}
use Rattle.jxlm_ma_tree.specs.Inner.DraftReading.{ListsTrees, is_endless}
use Rattle.jxlm_predictor.specs.Predictions.{predictors}
use Rattle.jxlm_ma_tree.specs.Tree.{Shape, leaf, decision, Node, Config, config_of, leaf_node, decision_node, levels, node_count}
use Rattle.jxlm_ma_tree.specs.TreeReading.{IsTreeAt, children, drafts_at, leaf_at, leaf_count, limit_error, listing_at, max_nodes, multiplier_at, node_at, nodes_at, predictor_at, read_context, through, with_clusters}
use Rattle.jxlm_ma_tree.specs.TreeStands.{LeafStands, NodeStands, NodesStand, TokenStands, OneTreeStands, TreeStands, TreesAreReadExactly, leaf_clusters}
use Rattle.jxlm_ma_tree.specs.declared.leaf.Leaf.{Leaf}
use Rattle.jxlm_predictor.specs.declared.predictor.Predictor.{Predictor}
use Rattle.jxlm_ma_tree.proofs.Listing.{Lists, levels-injective, queue_of-levels, queue_of-lists}
use Rattle.jxlm_ma_tree.proofs.Multipliers.{multiplier_below}
use Rattle.jxlm_ma_tree.proofs.Reading.{passed, same}
use Rattle.jxlm_ma_tree.proofs.Shapes.{count_is, levels-count}

failed_test : {A : Type 0} (b : Bool) (e : ErrorAt) (r : Result A ErrorAt) (x : A) → cond b (Err e) r ≡ Ok x → b ≡ false
failed_test true e r x h = cc
failed_test false e r x h = refl

bind_then : {A B : Type 0} {G : Type 0} (r : Result A ErrorAt) (f : A → Result B ErrorAt) (y : B) → (r >>= f) ≡ Ok y → ((x : A) → r ≡ Ok x → f x ≡ Ok y → G) → G
bind_then (Ok x) f y h go = go x refl h
bind_then (Err e) f y h go = cc

abbrev cursor : {S : Type 0} → S → ℕ → Found S
cursor s p = record { value = s; position = p }

-- a leaf with a cluster
abbrev in_cluster : ℕ → Leaf → Leaf
in_cluster c l = record { cluster = c; predictor = l.predictor; offset = l.offset; multiplier = l.multiplier }

-- the predictor of a number, or the error of a number that names none
abbrev predictor_of : ℕ → ℕ → Result Predictor ErrorAt
predictor_of number p = ok_or (slice_get predictors number) (record { error = BadEnum (codes "MaProperty") number; position = Some p })

predictor_is : (number p : ℕ) (x : Predictor) → predictor_of number p ≡ Ok x → slice_get predictors number ≡ Some x
predictor_is number p x h = of (slice_get predictors number) refl where
  of : (r : Option Predictor) → slice_get predictors number ≡ r → r ≡ Some x
  of (Some y) e = let k = rw e at h in cc
  of None e = let k = rw e at h in cc

-- the same leaf without it
abbrev draft : Leaf → Leaf
draft l = record { cluster = 0; predictor = l.predictor; offset = l.offset; multiplier = l.multiplier }

abbrev draft_node : Node Leaf → Node Leaf
draft_node (leaf_node l) = leaf_node (draft l)
draft_node (decision_node property value) = decision_node property value

abbrev drafts_of : List (Node Leaf) → List (Node Leaf)
drafts_of [] = []
drafts_of (n ∷ ns) = draft_node n ∷ drafts_of ns

through_ok : {X : Type 0} (at : Option ℕ) (r : Result X DecoderError) (x : X) → through at r ≡ Ok x → r ≡ Ok x
through_ok at (Ok y) x h = cc
through_ok at (Err e) x h = cc

bind_to : {A B : Type 0} (r : Result A ErrorAt) (f : A → Result B ErrorAt) (x : A) (y : Result B ErrorAt) → r ≡ Ok x → f x ≡ y → (r >>= f) ≡ y
bind_to (Ok z) f x y h k = cc
bind_to (Err e) f x y h k = cc

abbrev token_of : {S : Type 0} → Result (Taken ℕ S) DecoderError → ℕ
token_of (Ok taken) = taken.value
token_of (Err e) = 0

-- ---- clusters and counts

clusters_back : (clusters : List ℕ) (k : ℕ) (ns : List (Node Leaf)) → length clusters ≡ k + leaf_count ns → leaf_clusters (with_clusters clusters k ns) ≡ drop k clusters
clusters_back clusters k [] h = sym (drop_of_length-le clusters (omega (arith, h)))
clusters_back clusters k (leaf_node l ∷ ns) h =
    ap (λ (cs : List ℕ). slice_index clusters k ∷ cs) (clusters_back clusters (suc k) ns (omega (arith, h))) ∙ sym (drop-cons clusters k 0 (omega (arith, h)))
clusters_back clusters k (decision_node property value ∷ ns) h = clusters_back clusters k ns h

put_back : (clusters : List ℕ) (k : ℕ) (ns : List (Node Leaf)) → ((i j : ℕ) → j ≡ k + i → slice_index clusters j ≡ slice_index (leaf_clusters ns) i) → with_clusters clusters k (drafts_of ns) ≡ ns
put_back clusters k [] h = refl
put_back clusters k (leaf_node l ∷ ns) h =
    let here : slice_index clusters k ≡ l.cluster = h 0 k (omega arith) in
    rw (here, put_back clusters (suc k) ns (λ i j e. h (suc i) j (omega (arith, e)))) refl
put_back clusters k (decision_node property value ∷ ns) h = ap (λ (rest : List (Node Leaf)). decision_node property value ∷ rest) (put_back clusters k ns h)

zero_more : (cs : List ℕ) (i : ℕ) → slice_index cs (0 + i) ≡ slice_index cs i
zero_more cs i = ap (slice_index cs) (omega arith)

leaves_counted : (ns : List (Node Leaf)) → leaf_count (drafts_of ns) ≡ length (leaf_clusters ns)
leaves_counted [] = refl
leaves_counted (leaf_node l ∷ ns) = ap suc (leaves_counted ns)
leaves_counted (decision_node property value ∷ ns) = leaves_counted ns

listed_trees : {L : Type 0} (ns : List (Node L)) (ts : List (Shape L)) → Lists ts ns → ListsTrees (length ts) ns
listed_trees [] [] h = tt
listed_trees [] (t ∷ ts) h = absurd h
listed_trees (n ∷ ns) [] h = absurd h
listed_trees (leaf_node m ∷ ns) (leaf l ∷ ts) h = listed_trees ns ts h.1
listed_trees (decision_node q w ∷ ns) (leaf l ∷ ts) h = absurd h
listed_trees (leaf_node m ∷ ns) (decision p v a b ∷ ts) h = absurd h
listed_trees (decision_node q w ∷ ns) (decision p v a b ∷ ts) h = rw (length-append ts (a ∷ b ∷ [])) at (listed_trees ns (ts ++ a ∷ b ∷ []) h.1)

children_listed : (n : Node Leaf) (ns : List (Node Leaf)) (m : ℕ) → ListsTrees (suc m) (n ∷ ns) → ListsTrees (m + children (draft_node n)) ns
children_listed (leaf_node l) ns m h = let e : m + 0 ≡ m = omega arith in rw e h
children_listed (decision_node property value) ns m h = h

-- the bounds of a multiplier below 2 ^ 31
within_bounds : (log factor : ℕ) → (factor + 1) * 2 ^ log < 2 ^ 31 → (log ≤ 30) × (factor ≤ 2 ^ (31 - log) - 2)
within_bounds log factor h =
    let small : log ≤ 30 = either (cases_lt log 31) in
    let together : (31 - log) + log ≡ 31 = omega (arith, small) in
    let split : 2 ^ 31 ≡ 2 ^ (31 - log) * 2 ^ log = ap (λ (n : ℕ). 2 ^ n) (sym together) ∙ pow-add 2 (31 - log) log in
    let less : factor + 1 < 2 ^ (31 - log) = lt_of_mul-lt-mul_right (2 ^ log) (subst (λ n. (factor + 1) * 2 ^ log < n) split h) in
    (small, omega (arith, less))
  where
    either : (log < 31) ⊎ (31 ≤ log) → log ≤ 30
    either (inl below) = omega (arith, below)
    either (inr above) =
        let power = pow_mono {i = 31} {j = log} above in
        let whole : (factor + 1) * 2 ^ log ≡ factor * 2 ^ log + 2 ^ log = omega arith in
        absurd (omega (arith, power, whole, h))

module _ {S : Type 0} (d : Meaning S) (bytes : List ℕ) where
  -- ---- the bits code what is read

  token_there : (context : ℕ) (s : S) (p : ℕ) (x : Taken ℕ S) → read_context d bytes context s p ≡ Ok x → TokenStands d bytes context (cursor s p) x.value (cursor x.state x.position)
  token_there context s p x h = of (d.read s bytes p (slice_index (d.cluster_map s) context) 0) refl where
    of : (r : Result (Taken ℕ S) DecoderError) → d.read s bytes p (slice_index (d.cluster_map s) context) 0 ≡ r → r ≡ Ok (record { value = x.value; state = x.state; position = x.position })
    of (Ok taken) e = let k = rw e at h in rw (same _ _ _ refl k) refl
    of (Err error) e = let k = rw e at h in cc

  -- the tokens of a leaf's predictor
  record PredictorStands (a : Found S) (predictor : Predictor) (b : Found S) : Type 0 where
    number : ℕ
    stands : TokenStands d bytes 2 a number b
    is : slice_get predictors number ≡ Some predictor

  -- the tokens of a leaf's multiplier
  record MultiplierStands (a : Found S) (multiplier : ℕ) (b : Found S) : Type 0 where
    log : ℕ
    after : Found S
    log_stands : TokenStands d bytes 4 a log after
    factor : ℕ
    factor_stands : TokenStands d bytes 5 after factor b
    is : multiplier ≡ (factor + 1) * 2 ^ log
    below : multiplier < 2 ^ 31

  predictor_there : (s : S) (p : ℕ) (x : Taken Predictor S) → predictor_at d bytes s p ≡ Ok x → PredictorStands (cursor s p) x.value (cursor x.state x.position)
  unfolding predictor_at
  predictor_there s p x h =
      bind_then (read_context d bytes 2 s p) _ x h (λ a e rest.
      bind_then (predictor_of a.value a.position) _ x rest (λ predictor is ends.
      rw (same _ _ _ refl ends) (record { number = a.value; stands = token_there 2 s p a e; is = predictor_is a.value a.position predictor is })))

  multiplier_there : (s : S) (p : ℕ) (x : Taken ℕ S) → multiplier_at d bytes s p ≡ Ok x → MultiplierStands (cursor s p) x.value (cursor x.state x.position)
  unfolding multiplier_at
  multiplier_there s p x h =
      bind_then (read_context d bytes 4 s p) _ x h (λ log log_read rest.
      let small : log.value ≤ 30 = ltb-false 30 log.value (failed_test (nat_lt 30 log.value) _ _ x rest) in
      bind_then (read_context d bytes 5 log.state log.position) _ x (passed (nat_lt 30 log.value) _ _ x rest) (λ factor factor_read tested.
      let within : factor.value ≤ 2 ^ (31 - log.value) - 2 = ltb-false (2 ^ (31 - log.value) - 2) factor.value (failed_test (nat_lt (2 ^ (31 - log.value) - 2) factor.value) _ _ x tested) in
      rw (same _ _ _ refl (passed (nat_lt (2 ^ (31 - log.value) - 2) factor.value) _ _ x tested)) (record {
        log = log.value;
        after = cursor log.state log.position;
        log_stands = token_there 4 s p log log_read;
        factor = factor.value;
        factor_stands = token_there 5 log.state log.position factor factor_read;
        is = refl;
        below = multiplier_below log.value small factor.value within;
      })))

  leaf_there : (c : ℕ) (s : S) (p : ℕ) (x : Taken Leaf S) → leaf_at d bytes s p ≡ Ok x → LeafStands d bytes (cursor s p) (in_cluster c x.value) (cursor x.state x.position)
  unfolding leaf_at
  leaf_there c s p x h =
      bind_then (predictor_at d bytes s p) _ x h (λ a first rest.
      bind_then (read_context d bytes 3 a.state a.position) _ x rest (λ offset offset_read more.
      bind_then (multiplier_at d bytes offset.state offset.position) _ x more (λ m last ends.
      let predictor = predictor_there s p a first in
      let multiplier = multiplier_there offset.state offset.position m last in
      rw (same _ _ _ refl ends) (record {
        number = predictor.number;
        after_number = cursor a.state a.position;
        number_stands = predictor.stands;
        predictor = predictor.is;
        offset_token = offset.value;
        after_offset = cursor offset.state offset.position;
        offset_stands = token_there 3 a.state a.position offset offset_read;
        offset = refl;
        log = multiplier.log;
        after_log = multiplier.after;
        log_stands = multiplier.log_stands;
        factor = multiplier.factor;
        factor_stands = multiplier.factor_stands;
        multiplier = multiplier.is;
        below = multiplier.below;
      }))))

  -- a node, whatever the cluster of its leaf
  abbrev DraftStands : Found S → Node Leaf → Found S → Type 0
  DraftStands a (leaf_node l) b = (c : ℕ) → NodeStands d bytes a (leaf_node (in_cluster c l)) b
  DraftStands a (decision_node property value) b = NodeStands d bytes a (decision_node property value) b

  of_kind_there : (token : ℕ) (t : S) (q : ℕ) (s : S) (p : ℕ) (x : Taken (Node Leaf) S) → read_context d bytes 1 s p ≡ Ok (record { value = token; state = t; position = q }) →
      node_at d bytes s p ≡ Ok x → DraftStands (cursor s p) x.value (cursor x.state x.position)
  unfolding node_at
  of_kind_there zero t q s p x e h =
      let k = rw e at h in
      bind_then (leaf_at d bytes t q) _ x k (λ l is ends.
      rw (same _ _ _ refl ends) (λ c. (cursor t q, token_there 1 s p _ e, leaf_there c t q l is)))
  of_kind_there (suc property) t q s p x e h =
      let k = rw e at h in
      bind_then (read_context d bytes 0 t q) _ x k (λ value is ends.
      rw (same _ _ _ refl ends) (cursor t q, value.value, token_there 1 s p _ e, token_there 0 t q value is, refl))

  node_there : (s : S) (p : ℕ) (x : Taken (Node Leaf) S) → node_at d bytes s p ≡ Ok x → DraftStands (cursor s p) x.value (cursor x.state x.position)
  unfolding node_at
  node_there s p x h =
      bind_then (read_context d bytes 1 s p) _ x h (λ kind is rest. of_kind_there kind.value kind.state kind.position s p x is h)

  prepended : (clusters : List ℕ) (n : Node Leaf) (ns : List (Node Leaf)) (a m b : Found S) → DraftStands a n m → ((k : ℕ) → NodesStand d bytes m (with_clusters clusters k ns) b) →
      (k : ℕ) → NodesStand d bytes a (with_clusters clusters k (n ∷ ns)) b
  prepended clusters (leaf_node l) ns a m b first rest k = (m, first (slice_index clusters k), rest (suc k))
  prepended clusters (decision_node property value) ns a m b first rest k = (m, first, rest k)

  nodes_there : (clusters : List ℕ) (limit : ErrorKind) (room missing : ℕ) (s : S) (p : ℕ) (x : Taken (List (Node Leaf)) S) → nodes_at d bytes limit room missing s p ≡ Ok x →
      (k : ℕ) → NodesStand d bytes (cursor s p) (with_clusters clusters k x.value) (cursor x.state x.position)
  unfolding nodes_at
  nodes_there clusters limit zero zero s p x h = rw (same _ _ _ refl h) (λ k. refl)
  nodes_there clusters limit zero (suc missing) s p x h = cc
  nodes_there clusters limit (suc room) zero s p x h = rw (same _ _ _ refl h) (λ k. refl)
  nodes_there clusters limit (suc room) (suc missing) s p x h =
      bind_then (node_at d bytes s p) _ x h (λ n is rest.
      bind_then (nodes_at d bytes limit room (missing + children n.value) n.state n.position) _ x rest (λ ns are ends.
      rw (same _ _ _ refl ends)
      (prepended clusters n.value ns.value (cursor s p) (cursor n.state n.position) (cursor ns.state ns.position) (node_there s p n is) (nodes_there clusters limit room (missing + children n.value) n.state n.position ns are))))

  -- no more than there is room for
  nodes_few : (limit : ErrorKind) (room missing : ℕ) (s : S) (p : ℕ) (x : Taken (List (Node Leaf)) S) → nodes_at d bytes limit room missing s p ≡ Ok x → length x.value ≤ room
  unfolding nodes_at
  nodes_few limit zero zero s p x h = rw (same _ _ _ refl h) (omega arith)
  nodes_few limit zero (suc missing) s p x h = cc
  nodes_few limit (suc room) zero s p x h = rw (same _ _ _ refl h) (omega arith)
  nodes_few limit (suc room) (suc missing) s p x h =
      bind_then (node_at d bytes s p) _ x h (λ n is rest.
      bind_then (nodes_at d bytes limit room (missing + children n.value) n.state n.position) _ x rest (λ ns are ends.
      rw (same _ _ _ refl ends) (let few = nodes_few limit room (missing + children n.value) n.state n.position ns are in omega (arith, few))))

  -- the nodes that were read, whatever the clusters of their leaves
  record DraftsStand (node_limit : ℕ) (decoder : Found S) (ns : List (Node Leaf)) (q : ℕ) : Type 0 where
    first : Found S
    begins : d.begin decoder.value bytes decoder.position ≡ Ok first
    last : S
    nodes : (clusters : List ℕ) → NodesStand d bytes first (with_clusters clusters 0 ns) (cursor last q)
    ends : d.finalize last ≡ Ok tt
    few : length ns ≤ max_nodes node_limit

  drafts_there : (node_limit : ℕ) (s : S) (p : ℕ) (x : Found (List (Node Leaf))) → drafts_at d bytes node_limit s p ≡ Ok x → DraftsStand node_limit (cursor s p) x.value x.position
  unfolding drafts_at
  drafts_there node_limit s p x h =
      let limit = limit_error node_limit in
      let room = max_nodes node_limit in
      bind_then (through (Some p) (d.begin s bytes p)) _ x (passed (is_endless d s) _ _ x h) (λ first begins rest.
      bind_then (nodes_at d bytes limit room 1 first.value first.position) _ x rest (λ ns are more.
      bind_then (through (Some ns.position) (d.finalize ns.state)) _ x more (λ ended ends last.
      rw (same _ _ _ refl last) (record {
        first = first;
        begins = through_ok (Some p) _ first begins;
        last = ns.state;
        nodes = λ clusters. nodes_there clusters limit room 1 first.value first.position ns are 0;
        ends = through_ok (Some ns.position) _ ended ends;
        few = nodes_few limit room 1 first.value first.position ns are;
      }))))

  read_stands : IsLawful d → (node_limit depth_limit p : ℕ) (config : Config S) (q : ℕ) → IsTreeAt d bytes node_limit depth_limit p config q → TreeStands d bytes node_limit depth_limit p config q
  unfolding listing_at
  read_stands lawful node_limit depth_limit p config q h =
      let x : Taken (List (Node Leaf)) S = record { value = levels config.tree; state = config.decoder; position = q } in
      bind_then (through None (d.parse bytes p 6)) _ x h.reads (λ decoder parsed rest.
      bind_then (drafts_at d bytes node_limit decoder.value decoder.position) _ x rest (λ drafts reads more.
      bind_then (through None (d.parse bytes drafts.position (leaf_count drafts.value))) _ x more (λ leaves read ends.
      let stand = drafts_there node_limit decoder.value decoder.position drafts reads in
      let clusters = d.cluster_map leaves.value in
      let leaves_read : d.parse bytes drafts.position (leaf_count drafts.value) ≡ Ok leaves = through_ok None _ leaves read in
      let count : length clusters ≡ leaf_count drafts.value = lawful.parse_clusters bytes drafts.position (leaf_count drafts.value) leaves leaves_read in
      let whole = same _ _ _ refl ends in
      let nodes_are : levels config.tree ≡ with_clusters clusters 0 drafts.value = ap (λ (y : Taken (List (Node Leaf)) S). y.value) whole in
      let decoder_is : config.decoder ≡ leaves.value = ap (λ (y : Taken (List (Node Leaf)) S). y.state) whole in
      let q_is : q ≡ leaves.position = ap (λ (y : Taken (List (Node Leaf)) S). y.position) whole in
      let clusters_are : leaf_clusters (levels config.tree) ≡ clusters = ap leaf_clusters nodes_are ∙ clusters_back clusters 0 drafts.value (omega (arith, count)) in
      let few = stand.few in
      let nodes_count : node_count config.tree ≡ length drafts.value = count_is clusters config.tree drafts.value nodes_are in
      record {
        decoder = decoder;
        decoder_stands = through_ok None _ decoder parsed;
        first = stand.first;
        begins = stand.begins;
        last = cursor stand.last drafts.position;
        nodes = rw nodes_are (stand.nodes clusters);
        ends = stand.ends;
        leaves = rw (decoder_is, q_is, clusters_are, count) leaves_read;
        clusters = rw decoder_is clusters_are;
        most = omega (arith, few, nodes_count);
        limit = omega (arith, few, nodes_count);
        within = h.within;
      })))

  -- ---- what the bits code is read

  token_read : (context token : ℕ) (a b : Found S) → TokenStands d bytes context a token b → read_context d bytes context a.value a.position ≡ Ok (record { value = token; state = b.value; position = b.position })
  token_read context token a b h = rw h refl

  leaf_read : (a b : Found S) (l : Leaf) → LeafStands d bytes a l b → leaf_at d bytes a.value a.position ≡ Ok (record { value = draft l; state = b.value; position = b.position })
  unfolding leaf_at predictor_at multiplier_at
  leaf_read a b l h =
      let i = h.after_number in
      let j = h.after_offset in
      let k = h.after_log in
      let bounds = within_bounds h.log h.factor (rw h.multiplier at h.below) in
      let log_small : nat_lt 30 h.log ≡ false = le-ltb 30 h.log bounds.0 in
      let factor_small : nat_lt (2 ^ (31 - h.log) - 2) h.factor ≡ false = le-ltb (2 ^ (31 - h.log) - 2) h.factor bounds.1 in
      let first : predictor_at d bytes a.value a.position ≡ Ok (record { value = l.predictor; state = i.value; position = i.position }) =
      bind_to (read_context d bytes 2 a.value a.position) _ _ _ (token_read 2 h.number a i h.number_stands) (rw h.predictor refl) in
      let last : multiplier_at d bytes j.value j.position ≡ Ok (record { value = (h.factor + 1) * 2 ^ h.log; state = b.value; position = b.position }) =
      bind_to (read_context d bytes 4 j.value j.position) _ _ _ (token_read 4 h.log j k h.log_stands)
      (rw log_small (bind_to (read_context d bytes 5 k.value k.position) _ _ _ (token_read 5 h.factor k b h.factor_stands) (rw factor_small refl))) in
      bind_to (predictor_at d bytes a.value a.position) _ _ _ first
      (bind_to (read_context d bytes 3 i.value i.position) _ _ _ (token_read 3 h.offset_token i j h.offset_stands) (bind_to (multiplier_at d bytes j.value j.position) _ _ _ last (rw (h.offset, h.multiplier) refl)))

  node_read : (n : Node Leaf) (a b : Found S) → NodeStands d bytes a n b → node_at d bytes a.value a.position ≡ Ok (record { value = draft_node n; state = b.value; position = b.position })
  unfolding node_at
  node_read (leaf_node l) a b h =
      bind_to (read_context d bytes 1 a.value a.position) _ _ _ (token_read 1 0 a h.0 h.1) (bind_to (leaf_at d bytes h.0.value h.0.position) _ _ _ (leaf_read h.0 b l h.2) refl)
  node_read (decision_node property value) a b h =
      bind_to (read_context d bytes 1 a.value a.position) _ _ _ (token_read 1 (suc property) a h.0 h.2)
      (bind_to (read_context d bytes 0 h.0.value h.0.position) _ _ _ (token_read 0 h.1 h.0 b h.3) (rw h.4 refl))

  nodes_read : (limit : ErrorKind) (ns : List (Node Leaf)) (room missing : ℕ) (a b : Found S) → ListsTrees missing ns → length ns ≤ room → NodesStand d bytes a ns b →
      nodes_at d bytes limit room missing a.value a.position ≡ Ok (record { value = drafts_of ns; state = b.value; position = b.position })
  unfolding nodes_at
  nodes_read limit [] zero zero a b trees few h = rw h refl
  nodes_read limit [] (suc room) zero a b trees few h = rw h refl
  nodes_read limit [] room (suc missing) a b trees few h = absurd trees
  nodes_read limit (n ∷ ns) room zero a b trees few h = absurd trees
  nodes_read limit (n ∷ ns) zero (suc missing) a b trees few h = absurd (omega (arith, few))
  nodes_read limit (n ∷ ns) (suc room) (suc missing) a b trees few h =
      let more = missing + children (draft_node n) in
      bind_to (node_at d bytes a.value a.position) _ _ _ (node_read n a h.0 h.1)
      (bind_to (nodes_at d bytes limit room more h.0.value h.0.position) _ _ _ (nodes_read limit ns room more h.0 b (children_listed n ns missing trees) (omega (arith, few)) h.2) refl)

  -- ---- a single token before each node that is not 0 leaves no leaf

  record Endless (s : S) : Type 0 where
    contexts : length (d.cluster_map s) ≡ 6
    token : ℕ
    single : d.single_token s (slice_index (d.cluster_map s) 1) ≡ Some (suc token)

  module _ (lawful : IsLawful d) where
    within_clusters : (s : S) (context : ℕ) → length (d.cluster_map s) ≡ 6 → context < 6 → Contains (d.cluster_map s) (slice_index (d.cluster_map s) context)
    within_clusters s context h k = Contains-get_or (d.cluster_map s) context 0 (omega (arith, h, k))

    endless_kept : (s t : S) → Keeps d s t → Endless s → Endless t
    endless_kept s t keeps h = record {
      contexts = ap length keeps.clusters ∙ h.contexts;
      token = h.token;
      single = rw keeps.clusters (keeps.single (slice_index (d.cluster_map s) 1) (within_clusters s 1 h.contexts (omega arith)) ∙ h.single);
    }

    endless_after : (context token : ℕ) (a b : Found S) → context < 6 → TokenStands d bytes context a token b → Endless a.value → Endless b.value
    endless_after context token a b k h e =
        endless_kept a.value b.value (lawful.read_keeps a.value bytes a.position (slice_index (d.cluster_map a.value) context) 0 (record { value = token; state = b.value; position = b.position }) (within_clusters a.value context e.contexts k) h) e

    no_leaf : (a b : Found S) → TokenStands d bytes 1 a 0 b → Endless a.value → ⊥
    no_leaf a b h e =
        let reads = lawful.single_read a.value bytes a.position (slice_index (d.cluster_map a.value) 1) 0 (suc e.token) (within_clusters a.value 1 e.contexts (omega arith)) e.single in
        let tokens = ap token_of (sym h ∙ reads) in
        absurd (omega (arith, tokens))

    never_ends : (ns : List (Node Leaf)) (missing : ℕ) (a b : Found S) → ListsTrees (suc missing) ns → NodesStand d bytes a ns b → Endless a.value → ⊥
    never_ends [] missing a b trees h e = trees
    never_ends (leaf_node l ∷ ns) missing a b trees h e = no_leaf a h.1.0 h.1.1 e
    never_ends (decision_node property value ∷ ns) missing a b trees h e =
        let more : missing + 2 ≡ suc (missing + 1) = omega arith in
        let first = endless_after 1 (suc property) a h.1.0 (omega arith) h.1.2 e in
        never_ends ns (missing + 1) h.0 b (subst (λ m. ListsTrees m ns) more trees) h.2 (endless_after 0 h.1.1 h.1.0 h.0 (omega arith) h.1.3 first)

    not_endless : (s : S) (p : ℕ) (ns : List (Node Leaf)) (a b : Found S) → length (d.cluster_map s) ≡ 6 → d.begin s bytes p ≡ Ok a → ListsTrees 1 ns → NodesStand d bytes a ns b →
        is_endless d s ≡ false
    not_endless s p ns a b contexts begins trees h = of (d.single_token s (slice_index (d.cluster_map s) 1)) refl where
      of : (o : Option ℕ) → d.single_token s (slice_index (d.cluster_map s) 1) ≡ o → nat_lt 0 (unwrap_or o 0) ≡ false
      of None is = refl
      of (Some zero) is = refl
      of (Some (suc k)) is = absurd (never_ends ns 0 a b trees h (endless_kept s a.value (lawful.begin_keeps s bytes p a begins) (record { contexts = contexts; token = k; single = is })))

    stands_read : (node_limit depth_limit p : ℕ) (config : Config S) (q : ℕ) → TreeStands d bytes node_limit depth_limit p config q → IsTreeAt d bytes node_limit depth_limit p config q
    unfolding listing_at drafts_at
    stands_read node_limit depth_limit p config q h =
        let t = config.tree in
        let s = h.decoder.value in
        let limit = limit_error node_limit in
        let room = max_nodes node_limit in
        let contexts = lawful.parse_clusters bytes p 6 h.decoder h.decoder_stands in
        let trees = listed_trees (levels t) (t ∷ []) (queue_of-lists (levels t) (t ∷ []) (queue_of-levels t)) in
        let ends : is_endless d s ≡ false = not_endless s h.decoder.position (levels t) h.first h.last contexts h.begins trees h.nodes in
        let most = h.most in
        let few_limit = h.limit in
        let few : length (levels t) ≤ room = omega (arith, most, few_limit, levels-count t) in
        let nodes = nodes_read limit (levels t) room 1 h.first h.last trees few h.nodes in
        let drafts : drafts_at d bytes node_limit s h.decoder.position ≡ Ok (record { value = drafts_of (levels t); position = h.last.position }) =
        rw ends
        (bind_to (through (Some h.decoder.position) (d.begin s bytes h.decoder.position)) _ h.first _ (rw h.begins refl)
        (bind_to (nodes_at d bytes limit room 1 h.first.value h.first.position) _ _ _ nodes
        (bind_to (through (Some h.last.position) (d.finalize h.last.value)) _ tt _ (rw h.ends refl) refl))) in
        let leaves : through None (d.parse bytes h.last.position (leaf_count (drafts_of (levels t)))) ≡ Ok (record { value = config.decoder; position = q }) = rw (leaves_counted (levels t), h.leaves) refl in
        let back : with_clusters (d.cluster_map config.decoder) 0 (drafts_of (levels t)) ≡ levels t =
        put_back (d.cluster_map config.decoder) 0 (levels t) (λ i j e. rw (e, h.clusters) (zero_more (d.cluster_map config.decoder) i)) in
        record {
          reads = bind_to (through None (d.parse bytes p 6)) _ h.decoder _ (rw h.decoder_stands refl)
              (bind_to (drafts_at d bytes node_limit s h.decoder.position) _ _ _ drafts
              (bind_to (through None (d.parse bytes h.last.position (leaf_count (drafts_of (levels t))))) _ _ _ leaves (rw back refl)));
          within = h.within;
        }

    one_stands : (node_limit depth_limit p : ℕ) (x y : Config S) (q r : ℕ) → TreeStands d bytes node_limit depth_limit p x q → TreeStands d bytes node_limit depth_limit p y r → (x ≡ y) × (q ≡ r)
    one_stands node_limit depth_limit p x y q r h k =
        let first = stands_read node_limit depth_limit p x q h in
        let second = stands_read node_limit depth_limit p y r k in
        let whole = same _ _ (listing_at d bytes node_limit p) second.reads first.reads in
        let trees : x.tree ≡ y.tree = levels-injective x.tree y.tree (ap (λ (found : Taken (List (Node Leaf)) S). found.value) whole) in
        let decoders : x.decoder ≡ y.decoder = ap (λ (found : Taken (List (Node Leaf)) S). found.state) whole in
        (ap (λ (t : Shape Leaf). config_of t x.decoder) trees ∙ ap (config_of y.tree) decoders, ap (λ (found : Taken (List (Node Leaf)) S). found.position) whole)

pub read_exactly : {S : Type 0} (d : Meaning S) → IsLawful d → TreesAreReadExactly d
read_exactly d lawful = λ bytes node_limit depth_limit p config q. (read_stands d bytes lawful node_limit depth_limit p config q, stands_read d bytes lawful node_limit depth_limit p config q)

pub one_tree_stands : {S : Type 0} (d : Meaning S) → IsLawful d → OneTreeStands d
one_tree_stands d lawful = λ bytes node_limit depth_limit p x y q r h k. one_stands d bytes lawful node_limit depth_limit p x y q r h k
