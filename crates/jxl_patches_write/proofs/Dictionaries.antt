-- A dictionary whose decoder and tokens were written is read.
use Rattle.std.proofs.Common.{◌≡◌, ℕ, ◌+◌, ◌≤◌, List, [], ◌∷◌, length, map, Ok, refl, sym, ap, ◌∙◌, arith}
use Rattle.std.specs.Prelude.{codes, nat_le}
use Rattle.std.proofs.lemmas.Bool.{le-leb}
use Rattle.jxlm_bits.specs.Tokens.{Tokens, coded_tokens, token}
use Rattle.jxlm_bit_writer.specs.Writes.{Adds}
use Rattle.jxlm_bit_writer.specs.declared.token.Token.{Token}
use Rattle.jxlm_bit_writer.proofs.WriteLaws.{becomes}
use Rattle.jxl_coding.specs.Parse.{decoder_at, start_of}
use Rattle.jxl_coding.specs.Tokens.{Entropy, entropy}
use Rattle.jxl_coding.specs.Clusters.{are_used, count_of, greatest}
use Rattle.jxl_coding.proofs.DecoderLaw.{entropy_is_lawful}
use Rattle.jxl_coding_stream_write.specs.Codes.{codes_of}
use Rattle.jxl_coding_stream_write.specs.Streams.{AreAsked}
use Rattle.jxl_coding_stream_write.specs.declared.stream.StreamWriter.{StreamWriter}
use Rattle.jxl_coding_stream_write.proofs.WrittenStreams.{IsDecodedAt}
use Rattle.jxl_image_header.specs.Fields.{number_meant}
use Rattle.jxl_patches.specs.Patches.{most_rectangles, one_rectangle}
use Rattle.jxl_patches.specs.declared.dictionary.Place.{Place}
use Rattle.jxl_patches_write.specs.Written.{ArePatchesAt, added}
use Rattle.jxl_patches_write.specs.Inner.Given.{GiveAll, GiveRectangles, asked_of, counted, no_patches, sums}
use Rattle.jxl_patches_write.specs.Inner.Tokens.{clusters_in, token_in}
use Rattle.jxl_patches_write.proofs.Chains.{steps_all}
use Rattle.jxl_patches_write.proofs.TokenParts.{tells_both, tells_token}

-- each of the seven clusters has a context
pub clusters_used : count_of clusters_in ≡ Ok 7
unfolding greatest are_used
clusters_used = refl

-- the count of rectangles, and they
pub all_read : (kinds count : ℕ) (places : List Place) (rectangles : List Token) → count ≤ length places → GiveRectangles kinds count places places rectangles →
    GiveAll kinds places (token_in 0 count ∷ rectangles)
all_read kinds count places rectangles few read_as extra size slots limit is_kinds room =
    tells_both (token (entropy decoder_at) 0 (λ (v : ℕ). number_meant (codes "count of patches") (nat_le v (most_rectangles size)) v)) _ (_ ∷ []) rectangles count (sums kinds places)
    (tells_token 0 0 count _ count (omega arith) refl (λ bytes p. rw (le-leb count (most_rectangles size) (let f = room.few in omega (arith, few, f))) refl))
    (steps_all (one_rectangle (entropy decoder_at) size kinds slots limit) count no_patches (sums kinds places) rectangles (read_as extra size slots limit is_kinds room))

-- what a decoder is asked for are the clusters of the tokens
asked_are : (tokens : List Token) → AreAsked (map asked_of tokens) tokens
asked_are [] = refl
asked_are (t ∷ tokens) = ap (λ (cs : List ℕ). t.cluster ∷ cs) (asked_are tokens)

coded_read : {X : Type 0} (tokens : Tokens Entropy X) (bytes : List ℕ) (p a b q : ℕ) (s first last : Entropy) (x : X) → decoder_at bytes p 10 ≡ Ok (record { value = s; position = a }) →
    (entropy decoder_at).begin s bytes a ≡ Ok (record { value = first; position = b }) → (tokens first).read bytes b ≡ Ok (record { value = record { value = x; state = last }; position = q }) →
    (entropy decoder_at).finalize last ≡ Ok tt → (coded_tokens (entropy decoder_at) 10 tokens).read bytes p ≡ Ok (record { value = x; position = q })
coded_read tokens bytes p a b q s first last x parsed begun read ended = rw (parsed, begun, read, ended) refl

module _ (extra : ℕ) (places : List Place) (writer : StreamWriter) (tokens : List Token) (clusters : writer.clusters.items ≡ clusters_in) (read_as : GiveAll (1 + extra) places tokens) where
  -- a decoder and a stream were added
  pub dictionary_written : (old new : List ℕ) → Adds old new (IsDecodedAt (length writer.clusters.items) (codes_of writer) tokens) → Adds old new (ArePatchesAt extra (added extra places))
  dictionary_written old new all =
      let start : Entropy = start_of (codes_of writer) in
      becomes all (λ bytes p q s size slots limit room.
      let parsed : decoder_at bytes p 10 ≡ Ok (record { value = start; position = s.0 }) = ap (λ (n : ℕ). decoder_at bytes p n) (sym (ap (λ (cs : List ℕ). length cs) clusters)) ∙ s.1 in
      let there = s.2 (map asked_of tokens) (asked_are tokens) in
      let kept = (entropy_is_lawful.begin_keeps start bytes s.0 (record { value = there.first; position = there.start }) there.begins).clusters in
      let read = (read_as extra size slots limit refl room).read there.first there.last bytes there.start q (kept ∙ clusters) there.all in
      coded_read (counted size (1 + extra) slots limit) bytes p s.0 there.start q start there.first there.last (added extra places) parsed there.begins read there.accepts)
