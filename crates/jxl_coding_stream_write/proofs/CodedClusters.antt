-- Clusters that were written as a stream are read.
use Rattle.std.proofs.Common.{◌≡◌, ℕ, suc, ◌+◌, ◌<◌, List, [], ◌∷◌, ◌++◌, length, map, None, Bool, true, false, cond, Result, Ok, Err, refl, sym, ap, ◌∙◌, subst, arith, append_assoc}
use Rattle.std.specs.Prelude.{nat_lt, slice_index}
use Rattle.std.specs.List.{All, Contains}
use Rattle.std.proofs.lemmas.Bool.{lt-ltb}
use Rattle.std.proofs.lemmas.List.{append-nil}
use Rattle.jxlm_bits.specs.Decoding.{Asked, Found, Taken, reads}
use Rattle.jxlm_bits.specs.ErrorKind.{◌>>=◌}
use Rattle.jxlm_bits.specs.declared.decoder.DecoderError.{DecoderError}
use Rattle.jxlm_bit_writer.specs.Writes.{Writes}
use Rattle.jxlm_bit_writer.specs.Written.{digits}
use Rattle.jxlm_bit_writer.proofs.WriteLaws.{after, becomes}
use Rattle.jxl_coding_codes.specs.Reading.{steps}
use Rattle.jxl_coding.specs.Clusters.{Listed, cluster_step, stream_clusters_at, coded_clusters_at}
use Rattle.jxl_coding.specs.Parse.{decoder_at, start_of, codes_at, lz77_map_codes_at, plain_map_codes_at, map_codes_at, clusters_at, clusters_or_one}
use Rattle.jxl_coding.specs.Tokens.{Entropy, entropy, read_at, end_state}
use Rattle.jxl_coding.proofs.DecoderLaw.{entropy_is_lawful}
use Rattle.jxl_coding_stream_write.specs.Codes.{codes_of}
use Rattle.jxl_coding_stream_write.specs.Streams.{IsStream, in_stream}
use Rattle.jxl_coding_stream_write.specs.declared.stream.StreamWriter.{StreamWriter}
use Rattle.jxlm_bit_writer.specs.declared.token.Token.{Token}
use Rattle.jxl_coding_fields_write.proofs.NumberFields.{number_writes}
use Rattle.jxl_coding_stream_write.specs.Heads.{map_token}
use Rattle.jxl_coding_stream_write.proofs.HeadReads.{lz77_none}

-- The decoder of clusters.

module _ (w : StreamWriter) (one : w.clusters.items ≡ 0 ∷ []) (a b c : List ℕ) (e : b ≡ a ++ digits 1 0) (codes : Writes b c (codes_at None w.clusters.items) (codes_of w)) where
  own_codes : Writes b c (codes_at None (0 ∷ [])) (codes_of w)
  own_codes = subst (λ (xs : List ℕ). Writes b c (codes_at None xs) (codes_of w)) one codes

  plain_map : Writes a c plain_map_codes_at (codes_of w)
  unfolding plain_map_codes_at
  plain_map = becomes (after (lz77_none false a b e) own_codes) (λ bytes p q s. rw (s.1, s.2) refl)

  lz77_map : Writes a c lz77_map_codes_at (codes_of w)
  unfolding lz77_map_codes_at
  lz77_map = becomes (after (lz77_none true a b e) own_codes) (λ bytes p q s. rw (s.1, s.2) refl)

  map_written : (n : ℕ) → Writes a c (map_codes_at n) (codes_of w)
  map_written n = by (nat_lt 2 n)
    where
      by : (t : Bool) → Writes a c (λ bytes p. cond t (lz77_map_codes_at bytes p) (plain_map_codes_at bytes p)) (codes_of w)
      by true = lz77_map
      by false = plain_map

-- Their stream.

abbrev ok : {A : Type 0} → A → Result A DecoderError
ok x = Ok x

ok_same : {A : Type 0} (x y : A) → ok x ≡ ok y → x ≡ y
ok_same x y e = cc

abbrev taken : {X : Type 0} → X → Entropy → ℕ → Taken X Entropy
taken v s p = record { value = v; state = s; position = p }

abbrev listed_at : Entropy → List ℕ → ℕ → Found Listed
listed_at s clusters p = record { value = record { decoder = s; clusters = clusters }; position = p }

-- a read of the first context
abbrev ask : ℕ → Asked
ask v = record { cluster = 0; multiplier = 0 }

parts : (a b : ℕ) (xs ys : List ℕ) → a ∷ xs ≡ b ∷ ys → (a ≡ b) × (xs ≡ ys)
parts a b xs ys e = (cc, cc)

has_zero : (xs : List ℕ) → xs ≡ 0 ∷ [] → Contains xs 0
has_zero xs e = subst (λ (ys : List ℕ). Contains ys 0) (sym e) (0, omega arith, refl)

module _ (bytes : List ℕ) where
  step_reads : (s : Entropy) (p : ℕ) (acc : List ℕ) (first : Taken ℕ Entropy) → s.codes.clusters ≡ 0 ∷ [] → read_at s bytes p 0 0 ≡ ok first → first.value < 256 →
      cluster_step (record { decoder = s; clusters = acc }) bytes p ≡ ok (listed_at first.state (acc ++ first.value ∷ []) first.position)
  unfolding cluster_step
  step_reads s p acc first one read small =
      let c : slice_index s.codes.clusters 0 ≡ 0 = ap (λ (xs : List ℕ). slice_index xs 0) one in
      let r : read_at s bytes p (slice_index s.codes.clusters 0) 0 ≡ ok first = ap (λ (n : ℕ). read_at s bytes p n 0) c ∙ read in
      let t : nat_lt first.value 256 ≡ true = lt-ltb first.value 256 small in
      rw (r, t) refl

  kept : (s : Entropy) (p : ℕ) (first : Taken ℕ Entropy) → s.codes.clusters ≡ 0 ∷ [] → read_at s bytes p 0 0 ≡ ok first → first.state.codes.clusters ≡ 0 ∷ []
  kept s p first one read = (entropy_is_lawful.read_keeps s bytes p 0 0 first (has_zero s.codes.clusters one) read).clusters ∙ one

  -- one more, and then the others
  step_first : (n : ℕ) (x y z : Found Listed) → cluster_step x.value bytes x.position ≡ ok y → steps cluster_step n y.value bytes y.position ≡ ok z → steps cluster_step (suc n) x.value bytes x.position ≡ ok z
  unfolding steps
  step_first n x y z first rest = rw first rest

  more : (v : ℕ) (values : List ℕ) (s : Entropy) (p : ℕ) (acc : List ℕ) (t : Entropy) (q : ℕ) → s.codes.clusters ≡ 0 ∷ [] → v < 256 →
      ((u : Entropy) (r : ℕ) → u.codes.clusters ≡ 0 ∷ [] → reads (entropy decoder_at) u bytes r (map ask values) ≡ ok (taken values t q) →
      steps cluster_step (length values) (record { decoder = u; clusters = acc ++ v ∷ [] }) bytes r ≡ ok (listed_at t ((acc ++ v ∷ []) ++ values) q)) →
      (one : Result (Taken ℕ Entropy) DecoderError) → read_at s bytes p 0 0 ≡ one →
      (one >>= λ first. reads (entropy decoder_at) first.state bytes first.position (map ask values) >>= λ rest. Ok (taken (first.value ∷ rest.value) rest.state rest.position)) ≡ ok (taken (v ∷ values) t q) →
      steps cluster_step (suc (length values)) (record { decoder = s; clusters = acc }) bytes p ≡ ok (listed_at t (acc ++ v ∷ values) q)
  more v values s p acc t q one small others (Err e) is h = cc
  more v values s p acc t q one small others (Ok first) is h = last (reads (entropy decoder_at) first.state bytes first.position (map ask values)) refl h
    where
      last : (rest : Result (Taken (List ℕ) Entropy) DecoderError) → reads (entropy decoder_at) first.state bytes first.position (map ask values) ≡ rest →
          (rest >>= λ x. Ok (taken (first.value ∷ x.value) x.state x.position)) ≡ ok (taken (v ∷ values) t q) →
          steps cluster_step (suc (length values)) (record { decoder = s; clusters = acc }) bytes p ≡ ok (listed_at t (acc ++ v ∷ values) q)
      last (Err e) are k = cc
      last (Ok rest) are k =
          let same : taken (first.value ∷ rest.value) rest.state rest.position ≡ taken (v ∷ values) t q = ok_same _ _ k in
          let both = parts first.value v rest.value values (ap (λ (x : Taken (List ℕ) Entropy). x.value) same) in
          let u : rest.state ≡ t = ap (λ (x : Taken (List ℕ) Entropy). x.state) same in
          let r : rest.position ≡ q = ap (λ (x : Taken (List ℕ) Entropy). x.position) same in
          let rest_is : reads (entropy decoder_at) first.state bytes first.position (map ask values) ≡ ok (taken values t q) =
          are ∙ ap (λ (x : List ℕ). ok (taken x rest.state rest.position)) both.1 ∙ ap (λ (x : Entropy). ok (taken values x rest.position)) u ∙ ap (λ (x : ℕ). ok (taken values t x)) r in
          let here : cluster_step (record { decoder = s; clusters = acc }) bytes p ≡ ok (listed_at first.state (acc ++ v ∷ []) first.position) =
          step_reads s p acc first one is (subst (λ (x : ℕ). x < 256) (sym both.0) small) ∙ ap (λ (x : ℕ). ok (listed_at first.state (acc ++ x ∷ []) first.position)) both.0 in
          let there = others first.state first.position (kept s p first one is) rest_is in
          step_first (length values) (listed_at s acc p) (listed_at first.state (acc ++ v ∷ []) first.position) (listed_at t (acc ++ v ∷ values) q) here
          (there ∙ ap (λ (xs : List ℕ). ok (listed_at t xs q)) (append_assoc acc (v ∷ []) values))

  steps_read : (values : List ℕ) (s : Entropy) (p : ℕ) (acc : List ℕ) (t : Entropy) (q : ℕ) → s.codes.clusters ≡ 0 ∷ [] → All (λ v. v < 256) values →
      reads (entropy decoder_at) s bytes p (map ask values) ≡ ok (taken values t q) → steps cluster_step (length values) (record { decoder = s; clusters = acc }) bytes p ≡ ok (listed_at t (acc ++ values) q)
  unfolding steps
  steps_read [] s p acc t q one small h =
      let same : taken [] s p ≡ taken [] t q = ok_same _ _ h in
      ap (λ (x : Entropy). ok (listed_at x acc p)) (ap (λ (x : Taken (List ℕ) Entropy). x.state) same)
      ∙ ap (λ (x : ℕ). ok (listed_at t acc x)) (ap (λ (x : Taken (List ℕ) Entropy). x.position) same)
      ∙ ap (λ (xs : List ℕ). ok (listed_at t xs q)) (sym (append-nil acc))
  steps_read (v ∷ values) s p acc t q one small h =
      more v values s p acc t q one (small 0 0 (omega arith))
      (λ u r c k. steps_read values u r (acc ++ v ∷ []) t q c (λ i d lt. small (suc i) d (omega (arith, lt))) k)
      (read_at s bytes p 0 0) refl h

values_are : (clusters : List ℕ) → map (λ (t : Token). t.value) (map map_token clusters) ≡ clusters
values_are [] = refl
values_are (c ∷ clusters) = ap (λ (xs : List ℕ). c ∷ xs) (values_are clusters)

asked_are : (clusters : List ℕ) → map (λ (a : Asked). a.cluster) (map ask clusters) ≡ map (λ (t : Token). t.cluster) (map map_token clusters)
asked_are [] = refl
asked_are (c ∷ clusters) = ap (λ (xs : List ℕ). 0 ∷ xs) (asked_are clusters)

module _ (w : StreamWriter) (one : w.clusters.items ≡ 0 ∷ []) (clusters bits : List ℕ) (small : All (λ c. c < 256) clusters) (stream : IsStream (codes_of w) (map map_token clusters) bits)
    (c d : List ℕ) (added : d ≡ c ++ bits) where
  stream_written : Writes c d (stream_clusters_at (start_of (codes_of w)) (length clusters)) clusters
  unfolding stream_clusters_at
  stream_written = record {
    word = bits;
    added = added;
    holds = λ bytes p has.
        let b = stream.begins bytes p (start_of (codes_of w)) refl has in
        let r : reads (entropy decoder_at) (in_stream (codes_of w) stream.first) bytes (p + 32) (map ask clusters) ≡ ok (taken clusters (in_stream (codes_of w) end_state) (p + length bits)) =
        stream.reads_all bytes p (map ask clusters) (asked_are clusters) has ∙ ap (λ (xs : List ℕ). ok (taken xs (in_stream (codes_of w) end_state) (p + length bits))) (values_are clusters) in
        let s = steps_read bytes clusters (in_stream (codes_of w) stream.first) (p + 32) [] (in_stream (codes_of w) end_state) (p + length bits) one small r in
        rw (b, s) refl;
  }

  clusters_written : Writes c d (coded_clusters_at (start_of (codes_of w)) false (length clusters)) clusters
  unfolding coded_clusters_at
  clusters_written = becomes stream_written (λ bytes p q read. rw read refl)

pub coded_written : (w : StreamWriter) (clusters a b c d : List ℕ) → w.clusters.items ≡ 0 ∷ [] → All (λ v. v < 256) clusters → 1 < length clusters → b ≡ a ++ digits 3 0 → Writes b c (codes_at None w.clusters.items) (codes_of w) →
    (bits : List ℕ) → d ≡ c ++ bits → IsStream (codes_of w) (map map_token clusters) bits → Writes a d (clusters_or_one (clusters_at (length clusters)) (length clusters)) clusters
unfolding clusters_at
coded_written w clusters a b c d one small many e u bits f stream =
    let off : List ℕ = digits 1 0 in
    let t : nat_lt 1 (length clusters) ≡ true = lt-ltb 1 (length clusters) many in
    let last : b ≡ ((a ++ off) ++ off) ++ off = e ∙ sym (append_assoc (a ++ off) off off ∙ append_assoc a off (off ++ off)) in
    becomes
    (after (number_writes 1 0 a (a ++ off) (omega arith) refl)
    (after (number_writes 1 0 (a ++ off) ((a ++ off) ++ off) (omega arith) refl)
    (after (map_written w one ((a ++ off) ++ off) b c last u (length clusters)) (clusters_written w one clusters bits small stream c d f))))
    (λ bytes p q s. rw (t, s.1, s.2.1, s.2.2.1, s.2.2.2) refl)
