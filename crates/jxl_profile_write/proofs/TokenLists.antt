-- Bytes as tokens, one more at a time, and the clusters that a reader asks for.
use Rattle.std.proofs.Common.{◌≡◌, ℕ, zero, suc, ◌+◌, ◌-◌, ◌*◌, ◌%◌, ◌<◌, ◌≤◌, List, [], ◌∷◌, ◌++◌, length, map, take, get_or, Bool, true, false, Ok, refl, sym, ap, ◌∙◌, append_assoc, arith}
use Rattle.std.specs.Prelude.{reverse, slice_index, nat_le, nat_lt, ◌==◌, ◌&&◌, ◌||◌, if◌then◌else◌}
use Rattle.std.specs.List.{All}
use Rattle.std.proofs.lemmas.Bool.{le-leb}
use Rattle.std.proofs.lemmas.List.{append-nil, get_or-reverse, get_or-take, length-reverse, length-take-le, reverse-append, take_more}
use Rattle.std.proofs.lemmas.List.FromFn.{get_or-map-range_with_len, length-map-range_with_len}
use Rattle.std.proofs.Math.Nat.{mod-lt}
use Rattle.jxlm_bits.specs.Decoding.{Asked}
use Rattle.jxlm_bit_writer.specs.declared.token.Token.{Token}
use Rattle.jxl_coding.specs.Clusters.{are_used, count_of, greatest}
use Rattle.jxl_codestream.specs.Profiles.{context_after, context_of, kind_of}
use Rattle.jxl_coding_stream_write.specs.Streams.{AreAsked}
use Rattle.jxl_profile_write.specs.Inner.Tokens.{cluster_count, cluster_in, clusters_in, onto, tokens_after}

-- each cluster has a context
pub clusters_used : (separate : Bool) → count_of (clusters_in separate) ≡ Ok (cluster_count separate)
unfolding greatest are_used
clusters_used true = refl
clusters_used false = refl

separate_below : (context : ℕ) (b : Bool) → (if b then 1 + (context - 1) % 8 else 0) < 9
separate_below context true = let m : (context - 1) % 8 < 8 = mod-lt (context - 1) (omega arith) in omega (arith, m)
separate_below context false = omega arith

cluster_below : (separate : Bool) (context : ℕ) → cluster_in separate context < cluster_count separate
cluster_below true context = separate_below context (nat_lt 0 context)
cluster_below false context = omega arith

pub tokens_below : (separate : Bool) (before bytes : List ℕ) → All (λ (t : Token). t.cluster < cluster_count separate) (tokens_after separate before bytes)
unfolding tokens_after
tokens_below separate before [] k d lt = absurd (omega (arith, lt))
tokens_below separate before (b ∷ bytes) zero d lt = cluster_below separate (context_of before)
tokens_below separate before (b ∷ bytes) (suc k) d lt = tokens_below separate (b ∷ before) bytes k d (omega (arith, lt))

pub tokens_count : (separate : Bool) (before bytes : List ℕ) → length (tokens_after separate before bytes) ≡ length bytes
unfolding tokens_after
tokens_count separate before [] = refl
tokens_count separate before (b ∷ bytes) = ap suc (tokens_count separate (b ∷ before) bytes)

pub tokens_values : (separate : Bool) (before bytes : List ℕ) → map (λ (t : Token). t.value) (tokens_after separate before bytes) ≡ bytes
unfolding tokens_after
tokens_values separate before [] = refl
tokens_values separate before (b ∷ bytes) = ap (λ (xs : List ℕ). b ∷ xs) (tokens_values separate (b ∷ before) bytes)

-- one token more at the end
tokens_last : (separate : Bool) (before bytes : List ℕ) (b : ℕ) →
    tokens_after separate before (bytes ++ b ∷ []) ≡ tokens_after separate before bytes ++ record { cluster = cluster_in separate (context_of (onto bytes before)); value = b } ∷ []
unfolding tokens_after
tokens_last separate before [] b = refl
tokens_last separate before (c ∷ bytes) b =
    ap (λ (ts : List Token). record { cluster = cluster_in separate (context_of before); value = c } ∷ ts) (tokens_last separate (c ∷ before) bytes b)

pub no_tokens : (separate : Bool) (bytes : List ℕ) → tokens_after separate [] (take 0 bytes) ≡ []
unfolding tokens_after
no_tokens separate bytes = refl

pub tokens_next : (separate : Bool) (bytes : List ℕ) (i context cluster value : ℕ) (old new : List Token) → i < length bytes → old ≡ tokens_after separate [] (take i bytes) →
    context ≡ context_of (onto (take i bytes) []) → cluster ≡ cluster_in separate context → value ≡ slice_index bytes i → new ≡ old ++ record { cluster = cluster; value = value } ∷ [] →
    new ≡ tokens_after separate [] (take (i + 1) bytes)
tokens_next separate bytes i context cluster value old new lt before same is byte e =
    let c : cluster ≡ cluster_in separate (context_of (onto (take i bytes) [])) = is ∙ ap (cluster_in separate) same in
    let token : Token = record { cluster = cluster_in separate (context_of (onto (take i bytes) [])); value = slice_index bytes i } in
    e ∙ ap (λ (n : ℕ). old ++ record { cluster = n; value = value } ∷ []) c ∙ ap (λ (v : ℕ). old ++ record { cluster = cluster_in separate (context_of (onto (take i bytes) [])); value = v } ∷ []) byte
    ∙ ap (λ (ts : List Token). ts ++ token ∷ []) before ∙ sym (tokens_last separate [] (take i bytes) (slice_index bytes i)) ∙ ap (tokens_after separate []) (sym (take_more bytes i 0 lt))

-- bytes in front of others are those in reverse order
onto_is : (bytes before : List ℕ) → onto bytes before ≡ reverse bytes ++ before
onto_is [] before = refl
onto_is (b ∷ bytes) before =
    onto_is bytes (b ∷ before) ∙ sym (append_assoc (reverse bytes) (b ∷ []) before) ∙ ap (λ (xs : List ℕ). xs ++ before) (sym (reverse-append (b ∷ []) bytes))

pub onto_nothing : (bytes : List ℕ) → onto bytes [] ≡ reverse bytes
onto_nothing bytes = onto_is bytes [] ∙ append-nil (reverse bytes)

module _ (bytes : List ℕ) (i : ℕ) (inside : i ≤ length bytes) where
  many : length (onto (take i bytes) []) ≡ i
  many = ap length (onto_nothing (take i bytes)) ∙ length-reverse (take i bytes) ∙ length-take-le i bytes inside

  byte_back : (k : ℕ) → k < i → slice_index (onto (take i bytes) []) k ≡ slice_index bytes (i - (k + 1))
  byte_back k lt =
      let l = length-take-le i bytes inside in
      let e : length (take i bytes) - 1 - k ≡ i - (k + 1) = omega (arith, l) in
      ap (λ (xs : List ℕ). get_or xs k 0) (onto_nothing (take i bytes)) ∙ get_or-reverse (take i bytes) k 0 (omega (arith, lt, l)) ∙ ap (λ (n : ℕ). get_or (take i bytes) n 0) e
      ∙ get_or-take i bytes (i - (k + 1)) 0 (omega (arith, lt))

  -- the context of the first bytes, and of others
  pub first_context : i ≤ 128 → context_of (onto (take i bytes) []) ≡ 0
  first_context le = rw (many, le-leb i 128 le) refl

  pub later_context : 128 < i → context_after i (slice_index bytes (i - 1)) (slice_index bytes (i - 2)) ≡ context_of (onto (take i bytes) [])
  later_context lt =
      let last : slice_index bytes (i - 1) ≡ slice_index (onto (take i bytes) []) 0 = sym (byte_back 0 (omega (arith, lt))) in
      let before : slice_index bytes (i - 2) ≡ slice_index (onto (take i bytes) []) 1 = sym (byte_back 1 (omega (arith, lt))) in
      ap (λ (b : ℕ). context_after i b (slice_index bytes (i - 2))) last ∙ ap (λ (b : ℕ). context_after i (slice_index (onto (take i bytes) []) 0) b) before
      ∙ ap (λ (n : ℕ). context_after n (slice_index (onto (take i bytes) []) 0) (slice_index (onto (take i bytes) []) 1)) (sym many)

-- ---- what a reader asks for

-- the reads of bytes after these, by the clusters of their contexts
unfoldable pub asked_after : Bool → List ℕ → List ℕ → List Asked
asked_after separate before [] = []
asked_after separate before (b ∷ bytes) = record { cluster = slice_index (clusters_in separate) (context_of before); multiplier = 0 } ∷ asked_after separate (b ∷ before) bytes

choice_below : (b : Bool) (x y n : ℕ) → x < n → y < n → (if b then x else y) < n
choice_below true x y n p q = p
choice_below false x y n p q = q

kind_below : (byte : ℕ) → kind_of byte < 8
kind_below byte =
    choice_below (nat_le 97 byte && nat_le byte 122 || nat_le 65 byte && nat_le byte 90) _ _ 8 (omega arith)
    (choice_below (nat_le 48 byte && nat_le byte 57 || (byte == 46) || (byte == 44)) _ _ 8 (omega arith) (choice_below (byte == 0) _ _ 8 (omega arith) (choice_below (byte == 1) _ _ 8 (omega arith)
    (choice_below (nat_lt byte 16) _ _ 8 (omega arith) (choice_below (byte == 255) _ _ 8 (omega arith) (choice_below (nat_lt 240 byte) _ _ 8 (omega arith) (omega arith)))))))

counts_below : (k : ℕ) → slice_index (0 ∷ 1 ∷ 2 ∷ 2 ∷ 2 ∷ 3 ∷ 3 ∷ 4 ∷ []) k < 5
counts_below zero = omega arith
counts_below (suc zero) = omega arith
counts_below (suc (suc zero)) = omega arith
counts_below (suc (suc (suc zero))) = omega arith
counts_below (suc (suc (suc (suc zero)))) = omega arith
counts_below (suc (suc (suc (suc (suc zero))))) = omega arith
counts_below (suc (suc (suc (suc (suc (suc zero)))))) = omega arith
counts_below (suc (suc (suc (suc (suc (suc (suc zero))))))) = omega arith
counts_below (suc (suc (suc (suc (suc (suc (suc (suc k)))))))) = omega arith

pub context_below : (before : List ℕ) → context_of before < 41
context_below before =
    let a = kind_below (slice_index before 0) in
    let b = counts_below (kind_of (slice_index before 1)) in
    choice_below (nat_le (length before) 128) 0 (1 + kind_of (slice_index before 0) + 8 * slice_index (0 ∷ 1 ∷ 2 ∷ 2 ∷ 2 ∷ 3 ∷ 3 ∷ 4 ∷ []) (kind_of (slice_index before 1))) 41 (omega arith)
    (omega (arith, a, b))

pub many_clusters : (separate : Bool) → length (clusters_in separate) ≡ 41
many_clusters separate = length-map-range_with_len (cluster_in separate) 0 41

cluster_is : (separate : Bool) (context : ℕ) → context < 41 → slice_index (clusters_in separate) context ≡ cluster_in separate context
cluster_is separate context lt = get_or-map-range_with_len (cluster_in separate) 0 41 context context 0 lt (omega arith)

pub are_asked : (separate : Bool) (before bytes : List ℕ) → AreAsked (asked_after separate before bytes) (tokens_after separate before bytes)
unfolding tokens_after asked_after
are_asked separate before [] = refl
are_asked separate before (b ∷ bytes) =
    ap (λ (c : ℕ). c ∷ map (λ (a : Asked). a.cluster) (asked_after separate (b ∷ before) bytes)) (cluster_is separate (context_of before) (context_below before))
    ∙ ap (λ (cs : List ℕ). cluster_in separate (context_of before) ∷ cs) (are_asked separate (b ∷ before) bytes)
