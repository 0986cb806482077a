-- A profile whose length, decoder and tokens were written is read.
use Rattle.std.proofs.Common.{◌≡◌, ℕ, ◌+◌, ◌<◌, ◌≤◌, List, [], ◌∷◌, length, map, Bool, Result, Ok, refl, sym, ap, ◌∙◌, subst, arith}
use Rattle.std.specs.Prelude.{reverse, slice_index}
use Rattle.std.proofs.lemmas.Bool.{le-leb}
use Rattle.std.proofs.lemmas.List.{reverse-reverse}
use Rattle.jxlm_bits.specs.Decoding.{Meaning}
use Rattle.jxlm_bits.specs.ErrorKind.{ErrorKind}
use Rattle.jxlm_bits.specs.Grammar.{Grammar, from_result, ◌>>=◌}
use Rattle.jxlm_bits.specs.Tokens.{coded_tokens}
use Rattle.jxlm_bits.specs.Turns.{chain}
use Rattle.jxlm_bit_writer.specs.Writes.{Adds, Spells}
use Rattle.jxlm_bit_writer.specs.declared.token.Token.{Token}
use Rattle.jxlm_bit_writer.proofs.WriteLaws.{after, becomes, spelled_reads}
use Rattle.jxl_icc.specs.Profiles.{icc_of}
use Rattle.jxl_image_header.specs.Fields.{long}
use Rattle.jxl_image_header.proofs.HeaderLaws.{exact-long}
use Rattle.jxl_coding.specs.Parse.{decoder_at, start_of}
use Rattle.jxl_coding.specs.Tokens.{Entropy, entropy}
use Rattle.jxl_coding.proofs.DecoderLaw.{entropy_is_lawful}
use Rattle.jxl_coding_stream_write.specs.Codes.{codes_of}
use Rattle.jxl_coding_stream_write.specs.Streams.{AreAsked}
use Rattle.jxl_coding_stream_write.specs.declared.stream.StreamWriter.{StreamWriter}
use Rattle.jxl_coding_stream_write.proofs.WrittenStreams.{IsDecodedAt}
use Rattle.jxl_codestream.specs.Profiles.{icc_or_error, one_byte, profile}
use Rattle.jxl_profile_write.specs.Profiles.{IsProfileAt}
use Rattle.jxl_profile_write.specs.Inner.Tokens.{IsEncodedAt, clusters_in, onto, tokens_after}
use Rattle.jxl_profile_write.proofs.TokenLists.{are_asked, asked_after, many_clusters, onto_nothing, tokens_values}
use Rattle.jxl_profile_write.proofs.TokenReads.{bytes_there}

-- one field, and after it another
both_read : {X Y : Type 0} (f : Grammar X) (g : X → Grammar Y) (bytes : List ℕ) (p : ℕ) (x : X) (m : ℕ) (y : Y) (q : ℕ) → f.read bytes p ≡ Ok (record { value = x; position = m }) →
    (g x).read bytes m ≡ Ok (record { value = y; position = q }) → (f >>= g).read bytes p ≡ Ok (record { value = y; position = q })
both_read f g bytes p x m y q first second = rw first second

coded_read : {S : Type 0} (d : Meaning S) (n : ℕ) (bytes : List ℕ) (p a b q : ℕ) (s first last : S) (xs : List ℕ) → d.parse bytes p 41 ≡ Ok (record { value = s; position = a }) →
    d.begin s bytes a ≡ Ok (record { value = first; position = b }) → (chain (one_byte d) n [] first).read bytes b ≡ Ok (record { value = record { value = xs; state = last }; position = q }) →
    d.finalize last ≡ Ok tt → (coded_tokens d 41 (chain (one_byte d) n [])).read bytes p ≡ Ok (record { value = xs; position = q })
coded_read d n bytes p a b q s first last xs parsed begun read ended = rw (parsed, begun, read, ended) refl

module _ (separate : Bool) (encoded : List ℕ) (writer : StreamWriter) (tokens : List Token) (clusters : writer.clusters.items ≡ clusters_in separate)
    (are : tokens ≡ tokens_after separate [] encoded) (below : (k : ℕ) → k < length encoded → slice_index encoded k < 256) where
  many : length writer.clusters.items ≡ 41
  many = ap length clusters ∙ many_clusters separate

  -- a decoder and a stream were added
  pub encoded_written : (old new : List ℕ) → Adds old new (IsDecodedAt (length writer.clusters.items) (codes_of writer) tokens) → Adds old new (IsEncodedAt encoded)
  encoded_written old new all =
      let start : Entropy = start_of (codes_of writer) in
      becomes all (λ bytes p q s.
      let parsed : decoder_at bytes p 41 ≡ Ok (record { value = start; position = s.0 }) = ap (λ (n : ℕ). decoder_at bytes p n) (sym many) ∙ s.1 in
      let there = s.2 (asked_after separate [] encoded) (subst (λ (ts : List Token). AreAsked (asked_after separate [] encoded) ts) (sym are) (are_asked separate [] encoded)) in
      let values = ap (λ (ts : List Token). map (λ (t : Token). t.value) ts) are ∙ tokens_values separate [] encoded in
      let clusters_kept = (entropy_is_lawful.begin_keeps start bytes s.0 (record { value = there.first; position = there.start }) there.begins).clusters in
      let read = bytes_there (entropy decoder_at) entropy_is_lawful separate bytes encoded [] there.first there.last there.start q below (clusters_kept ∙ clusters)
      (there.all ∙ ap (λ (vs : List ℕ). Ok (record { value = vs; state = there.last; position = q })) values) in
      coded_read (entropy decoder_at) (length encoded) bytes p s.0 there.start q start there.first there.last (onto encoded []) parsed there.begins read there.accepts
      ∙ ap (λ (xs : List ℕ). Ok (record { value = xs; position = q })) (onto_nothing encoded))

-- a profile that is not empty
some_icc : (icc : List ℕ) → 0 < length icc → icc_or_error (Ok icc) ≡ Ok icc
some_icc [] lt = absurd (omega (arith, lt))
some_icc (b ∷ icc) lt = refl

module _ (limit : ℕ) (encoded icc : List ℕ) (gives : icc_of limit encoded ≡ Ok icc) (some : 0 < length icc) (within : length encoded ≤ limit) where
  profile_there : (bytes : List ℕ) (p a q : ℕ) → long.read bytes p ≡ Ok (record { value = length encoded; position = a }) → IsEncodedAt encoded bytes a q →
      (profile (entropy decoder_at) limit).read bytes p ≡ Ok (record { value = icc; position = q })
  profile_there bytes p a q counted coded =
      let d : Meaning Entropy = entropy decoder_at in
      let le = le-leb (length encoded) limit within in
      let back = reverse-reverse encoded in
      let is : icc_or_error (icc_of limit (reverse (reverse encoded))) ≡ Ok icc = ap (λ (xs : List ℕ). icc_or_error (icc_of limit xs)) back ∙ ap icc_or_error gives ∙ some_icc icc some in
      rw (counted, le, coded) (ap (λ (r : Result (List ℕ) ErrorKind). (from_result r).read bytes q) is)

-- the length of the encoded profile, and it
pub profile_written : (encoded icc old mid new : List ℕ) → ((max : ℕ) → length icc ≤ max → icc_of max encoded ≡ Ok icc) → length encoded ≤ length icc + 16 → 0 < length icc → Spells old mid long (length encoded) →
    Adds mid new (IsEncodedAt encoded) → Adds old new (IsProfileAt icc)
profile_written encoded icc old mid new gives few some counted coded =
    becomes (after (spelled_reads long (length encoded) old mid exact-long counted) coded) (λ bytes p q s limit le.
    profile_there limit encoded icc (gives limit (omega (arith, le))) some (omega (arith, le, few)) bytes p s.0 q s.1 s.2)
