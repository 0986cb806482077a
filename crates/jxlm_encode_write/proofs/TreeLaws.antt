-- Trees that were written stand where their bits stand.
use Rattle.std.proofs.Common.{◌≡◌, subst, ℕ, zero, suc, ◌+◌, ◌*◌, ◌/◌, ◌%◌, ◌^◌, ◌<◌, ◌≤◌, ℤ, pos, negsuc, List, [], ◌∷◌, ◌++◌, length, replicate, map, Some, refl, sym, ap, ◌∙◌, arith}
use Rattle.std.specs.Prelude.{slice_get, slice_index}
use Rattle.std.specs.List.{All, flat_map}
use Rattle.std.proofs.lemmas.List.{length-append}
use Rattle.std.proofs.lemmas.Grind.{flat_map-append}
use Rattle.jxlm_bits.specs.Decoding.{Found, Meaning}
use Rattle.jxlm_bits.specs.Numbers.{unpack}
use Rattle.jxlm_plain.specs.Plain.{plain, plain2}
use Rattle.jxlm_tree.specs.Tree.{Shape, levels, depth, node_count, config_of}
use Rattle.jxlm_tree.specs.TreeStands.{TokenStands, NodeStands, NodesStand, TreeStands, leaf_clusters}
use Rattle.jxlm_ma_tree.specs.declared.leaf.Leaf.{Leaf}
use Rattle.jxlm_predictor.specs.Predictions.{number_of, predictors}
use Rattle.jxlm_predictor.specs.declared.predictor.Predictor.{Predictor}
use Rattle.jxlm_bit_writer.specs.Written.{digits, HasBits}
use Rattle.jxlm_encode_write.specs.Tokens.{decoder_bits, one_cluster, gamma_decoder_bits, gamma_bits, one_gamma_cluster}
use Rattle.jxlm_encode_write.specs.Nodes.{packed_number, node_of, node_tokens, tree_tokens}
use Rattle.jxlm_encode_write.specs.Trees.{leaves_in, tree_bits, gamma_tree_bits}
use Rattle.jxlm_encode_write.specs.Laws.{TreesStand, GammaTreesStand}
use Rattle.jxlm_encode_write.specs.declared.tree.EncodeNode.{EncodeNode}
use Rattle.jxlm_encode_write.specs.declared.tree.EncodeNode.TheVariants as given
use Rattle.jxlm_predictor.proofs.Numbers.{found_by_number}
use Rattle.jxlm_bit_writer.proofs.BitLists.{has_first, has_rest}
use Rattle.jxlm_encode_write.proofs.Writable.{IsWritable}
use Rattle.jxlm_encode_write.proofs.TokenLaws.{fixed_writable}
use Rattle.jxlm_encode_write.proofs.GammaLaws.{gamma_writable}

-- a packed number is unpacked
pub unpack_packed : (z : ℤ) → unpack (packed_number z) ≡ z
unpack_packed (pos k) =
    let even : 2 * k % 2 ≡ 0 = omega arith in
    let half : 2 * k / 2 ≡ k = omega arith in
    rw (even, half) refl
unpack_packed (negsuc k) =
    let odd : (2 * k + 1) % 2 ≡ 1 = omega arith in
    let half : (2 * k + 1) / 2 ≡ k = omega arith in
    rw (odd, half) refl

-- each of these tokens fits
abbrev pub Fit : (ℕ → Type 0) → List ℕ → Type 0
Fit Fits ts = All Fits ts

first_fits : (Fits : ℕ → Type 0) (t : ℕ) (ts : List ℕ) → Fit Fits (t ∷ ts) → Fits t
first_fits Fits t ts h = h 0 t (omega arith)

rest_fits : (Fits : ℕ → Type 0) (t : ℕ) (ts : List ℕ) → Fit Fits (t ∷ ts) → Fit Fits ts
rest_fits Fits t ts h k d lt = h (suc k) d (omega (arith, lt))

front_fits : (Fits : ℕ → Type 0) (xs ys : List ℕ) → Fit Fits (xs ++ ys) → Fit Fits xs
front_fits Fits [] ys h k d lt = absurd (omega (arith, lt))
front_fits Fits (x ∷ xs) ys h zero d lt = h 0 d (omega arith)
front_fits Fits (x ∷ xs) ys h (suc k) d lt = front_fits Fits xs ys (rest_fits Fits x (xs ++ ys) h) k d (omega (arith, lt))

back_fits : (Fits : ℕ → Type 0) (xs ys : List ℕ) → Fit Fits (xs ++ ys) → Fit Fits ys
back_fits Fits [] ys h = h
back_fits Fits (x ∷ xs) ys h = back_fits Fits xs ys (rest_fits Fits x (xs ++ ys) h)

module _ {S : Type 0} (d : Meaning S) (state : ℕ → S) (head : ℕ → List ℕ) (one : ℕ → List ℕ) (Fits : ℕ → Type 0) (w : IsWritable d state head one Fits) (bytes : List ℕ) where
  -- a decoder at its tokens
  abbrev at : ℕ → Found S
  at q = record { value = state 6; position = q }

  -- tokens as bits
  abbrev bits_in : List ℕ → List ℕ
  bits_in ts = flat_map one ts

  -- the first of some tokens, and the others
  first_has : (q t : ℕ) (ts : List ℕ) → HasBits bytes q (bits_in (t ∷ ts)) → HasBits bytes q (one t)
  first_has q t ts h = has_first bytes q (one t) (bits_in ts) h

  others_have : (q t : ℕ) (ts : List ℕ) → HasBits bytes q (bits_in (t ∷ ts)) → HasBits bytes (q + length (one t)) (bits_in ts)
  others_have q t ts h = has_rest bytes q (one t) (bits_in ts) h

  token_stands : (q r context t : ℕ) (ts : List ℕ) → slice_index (replicate {A = ℕ} 6 0) context ≡ 0 → Fit Fits (t ∷ ts) → HasBits bytes q (bits_in (t ∷ ts)) → r ≡ q + length (one t) →
      TokenStands d bytes context (at q) t (at r)
  token_stands q r context t ts zero_cluster fit h e =
      rw (w.clusters 6, zero_cluster, w.reads 6 bytes q 0 t (first_fits Fits t ts fit) (first_has q t ts h), e) refl

  node_stands : (q r : ℕ) (n : EncodeNode) → Fit Fits (node_tokens n) → HasBits bytes q (bits_in (node_tokens n)) → r ≡ q + length (bits_in (node_tokens n)) →
      NodeStands d bytes (at q) (node_of n) (at r)
  node_stands q r (given.Decision property value) fit h e =
      let t1 : List ℕ = packed_number value ∷ [] in
      let q1 : ℕ = q + length (one (suc property)) in
      let k = length-append (one (suc property)) (bits_in t1) in
      let l = length-append (one (packed_number value)) [] in
      let fit1 = rest_fits Fits (suc property) t1 fit in
      let h1 = others_have q (suc property) t1 h in (
        at q1,
        packed_number value,
        token_stands q q1 1 (suc property) t1 refl fit h refl,
        token_stands q1 r 0 (packed_number value) [] refl fit1 h1 (omega (arith, e, k, l)),
        sym (unpack_packed value),
      )
  node_stands q r (given.Leaf predictor offset) fit h e =
      let t4 : List ℕ = 0 ∷ [] in
      let t3 : List ℕ = 0 ∷ t4 in
      let t2 : List ℕ = packed_number offset ∷ t3 in
      let t1 : List ℕ = number_of predictor ∷ t2 in
      let q1 : ℕ = q + length (one 0) in
      let q2 : ℕ = q1 + length (one (number_of predictor)) in
      let q3 : ℕ = q2 + length (one (packed_number offset)) in
      let q4 : ℕ = q3 + length (one 0) in
      let k0 = length-append (one 0) (bits_in t1) in
      let k1 = length-append (one (number_of predictor)) (bits_in t2) in
      let k2 = length-append (one (packed_number offset)) (bits_in t3) in
      let k3 = length-append (one 0) (bits_in t4) in
      let k4 = length-append (one 0) [] in
      let f1 = rest_fits Fits 0 t1 fit in
      let f2 = rest_fits Fits (number_of predictor) t2 f1 in
      let f3 = rest_fits Fits (packed_number offset) t3 f2 in
      let f4 = rest_fits Fits 0 t4 f3 in
      let h1 = others_have q 0 t1 h in
      let h2 = others_have q1 (number_of predictor) t2 h1 in
      let h3 = others_have q2 (packed_number offset) t3 h2 in
      let h4 = others_have q3 0 t4 h3 in (
        at q1,
        token_stands q q1 1 0 t1 refl fit h refl,
        record {
          number = number_of predictor;
          after_number = at q2;
          number_stands = token_stands q1 q2 2 (number_of predictor) t2 refl f1 h1 refl;
          predictor = found_by_number predictor;
          offset_token = packed_number offset;
          after_offset = at q3;
          offset_stands = token_stands q2 q3 3 (packed_number offset) t3 refl f2 h2 refl;
          offset = sym (unpack_packed offset);
          log = 0;
          after_log = at q4;
          log_stands = token_stands q3 q4 4 0 t4 refl f3 h3 refl;
          factor = 0;
          factor_stands = token_stands q4 r 5 0 [] refl f4 h4 (omega (arith, e, k0, k1, k2, k3, k4));
          multiplier = refl;
          below = omega arith;
        },
      )

  pub nodes_stand : (q r : ℕ) (nodes : List EncodeNode) → Fit Fits (tree_tokens nodes) → HasBits bytes q (bits_in (tree_tokens nodes)) → r ≡ q + length (bits_in (tree_tokens nodes)) →
      NodesStand d bytes (at q) (map node_of nodes) (at r)
  nodes_stand q r [] fit h e = let s : r ≡ q = omega (arith, e) in ap at s
  nodes_stand q r (n ∷ nodes) fit h e =
      let xs : List ℕ = node_tokens n in
      let ys : List ℕ = tree_tokens nodes in
      let both : bits_in (xs ++ ys) ≡ bits_in xs ++ bits_in ys = flat_map-append one xs ys in
      let g : HasBits bytes q (bits_in xs ++ bits_in ys) = subst (λ bits. HasBits bytes q bits) both h in
      let m : ℕ = q + length (bits_in xs) in
      let l = ap length both in
      let a = length-append (bits_in xs) (bits_in ys) in (
        at m,
        node_stands q m n (front_fits Fits xs ys fit) (has_first bytes q (bits_in xs) (bits_in ys) g) refl,
        nodes_stand m r nodes (back_fits Fits xs ys fit) (has_rest bytes q (bits_in xs) (bits_in ys) g) (omega (arith, e, l, a)),
      )

-- the clusters of the leaves
clusters_are : (nodes : List EncodeNode) → leaf_clusters (map node_of nodes) ≡ replicate (leaves_in nodes) 0
clusters_are [] = refl
clusters_are (given.Decision property value ∷ nodes) = clusters_are nodes
clusters_are (given.Leaf predictor offset ∷ nodes) = ap (λ xs. 0 ∷ xs) (clusters_are nodes)

length-zeros : (n : ℕ) → length {A = ℕ} (replicate n 0) ≡ n
length-zeros zero = refl
length-zeros (suc n) = let l = length-zeros n in omega (arith, l)

-- the bits code the tree that was written, and the decoder of its leaves
tree_stands : {S : Type 0} (d : Meaning S) (state : ℕ → S) (head : ℕ → List ℕ) (one : ℕ → List ℕ) (Fits : ℕ → Type 0) (own : IsWritable d state head one Fits)
    (state2 : ℕ → S) (head2 : ℕ → List ℕ) (one2 : ℕ → List ℕ) (Fits2 : ℕ → Type 0) (leaves : IsWritable d state2 head2 one2 Fits2)
    (bytes : List ℕ) (start end node_limit depth_limit : ℕ) (t : Shape Leaf) (nodes : List EncodeNode) → levels t ≡ map node_of nodes →
    Fit Fits (tree_tokens nodes) → node_count t ≤ 2 ^ 26 → node_count t ≤ node_limit + 1 → depth t ≤ depth_limit →
    HasBits bytes start (head 6 ++ (flat_map one (tree_tokens nodes) ++ head2 (leaves_in nodes))) → end ≡ start + length (head 6 ++ (flat_map one (tree_tokens nodes) ++ head2 (leaves_in nodes))) →
    TreeStands d bytes node_limit depth_limit start (config_of t (state2 (leaves_in nodes))) end
tree_stands {S} d state head one Fits own state2 head2 one2 Fits2 leaves bytes start end node_limit depth_limit t nodes listed fit most limit within h e =
    let a : List ℕ = head 6 in
    let b : List ℕ = flat_map one (tree_tokens nodes) in
    let c : List ℕ = head2 (leaves_in nodes) in
    let q1 : ℕ = start + length a in
    let q2 : ℕ = q1 + length b in
    let l = length-append a (b ++ c) in
    let m = length-append b c in
    let rest = has_rest bytes start a (b ++ c) h in
    let clusters : leaf_clusters (levels t) ≡ replicate (leaves_in nodes) 0 = ap leaf_clusters listed ∙ clusters_are nodes in
    let count : length (leaf_clusters (levels t)) ≡ leaves_in nodes = ap length clusters ∙ length-zeros (leaves_in nodes) in
    let first : Found S = record { value = state 6; position = q1 } in
    record {
      decoder = first;
      decoder_stands = own.parsed bytes start 6 q1 (has_first bytes start a (b ++ c) h) refl;
      first = first;
      begins = own.begun bytes q1 6;
      last = record { value = state 6; position = q2 };
      nodes = rw listed (nodes_stand d state head one Fits own bytes q1 q2 nodes fit (has_first bytes q1 b c rest) refl);
      ends = own.ended 6;
      leaves = rw count (leaves.parsed bytes q2 (leaves_in nodes) end (has_rest bytes q1 b c rest) (omega (arith, e, l, m)));
      clusters = clusters ∙ sym (leaves.clusters (leaves_in nodes));
      most = most;
      limit = limit;
      within = within;
    }

pub trees_stand : TreesStand
trees_stand bytes p own width node_limit depth_limit t nodes listed narrow narrow2 fit most limit within h =
    tree_stands plain (λ contexts. one_cluster contexts own) (λ contexts. decoder_bits contexts own) (digits own) (λ v. v < 2 ^ own) (fixed_writable own narrow)
    (λ contexts. one_cluster contexts width) (λ contexts. decoder_bits contexts width) (digits width) (λ v. v < 2 ^ width) (fixed_writable width narrow2)
    bytes p (p + length (tree_bits nodes own width)) node_limit depth_limit t nodes listed fit most limit within h refl

pub gamma_trees_stand : GammaTreesStand
gamma_trees_stand bytes p node_limit depth_limit t nodes listed fit most limit within h =
    tree_stands plain2 one_gamma_cluster gamma_decoder_bits gamma_bits (λ v. v < 2 ^ 32) gamma_writable one_gamma_cluster gamma_decoder_bits gamma_bits (λ v. v < 2 ^ 32) gamma_writable
    bytes p (p + length (gamma_tree_bits nodes)) node_limit depth_limit t nodes listed fit most limit within h refl
