-- Streams that were written, and decoders with streams after them.
use Rattle.std.proofs.Common.{◌≡◌, ℕ, List, ◌++◌, map, refl, Ok}
use Rattle.jxlm_bits.specs.Decoding.{Asked}
use Rattle.jxlm_bit_writer.specs.ReadStreams.{IsRead}
use Rattle.jxlm_bit_writer.specs.Writes.{Adds, Writes}
use Rattle.jxlm_bit_writer.specs.declared.token.Token.{Token}
use Rattle.jxlm_bit_writer.proofs.WriteLaws.{after, becomes}
use Rattle.jxl_coding.specs.Parse.{decoder_at, start_of}
use Rattle.jxl_coding.specs.Symbols.{Codes}
use Rattle.jxl_coding.specs.Tokens.{Entropy, entropy}
use Rattle.jxl_coding_stream_write.specs.Streams.{AreAsked, IsStream}
use Rattle.jxl_coding_stream_write.proofs.StreamReads.{streams_read}

-- from bit p up to bit q, each decoder of these codes reads these tokens, and accepts the end
abbrev pub IsStreamAt : Codes → List Token → List ℕ → ℕ → ℕ → Type 0
IsStreamAt codes tokens bytes p q = (s : Entropy) (asked : List Asked) → s.codes ≡ codes → AreAsked asked tokens → IsRead (entropy decoder_at) s bytes p asked (map (λ t. t.value) tokens) q

-- from bit p on, the head of a decoder of these contexts, and then, up to bit q, a stream that it reads as these tokens
abbrev pub IsDecodedAt : ℕ → Codes → List Token → List ℕ → ℕ → ℕ → Type 0
IsDecodedAt contexts codes tokens bytes p q = (m : ℕ) × (decoder_at bytes p contexts ≡ Ok (record { value = start_of codes; position = m })) ×
    ((asked : List Asked) → AreAsked asked tokens → IsRead (entropy decoder_at) (start_of codes) bytes m asked (map (λ t. t.value) tokens) q)

pub stream_added : (codes : Codes) (tokens : List Token) (a b : List ℕ) → (word : List ℕ) × (b ≡ a ++ word) × IsStream codes tokens word → Adds a b (IsStreamAt codes tokens)
stream_added codes tokens a b w = record { word = w.0; added = w.1; holds = λ bytes p has s asked same are. streams_read codes tokens w.0 s bytes p asked w.2 same are has }

pub decoded_added : (contexts : ℕ) (codes : Codes) (tokens : List Token) (a c : List ℕ) →
    (b : List ℕ) × (word : List ℕ) × Writes a b (λ bytes p. decoder_at bytes p contexts) (start_of codes) × (c ≡ b ++ word) × IsStream codes tokens word → Adds a c (IsDecodedAt contexts codes tokens)
decoded_added contexts codes tokens a c w =
    becomes (after w.2 (stream_added codes tokens w.0 c (w.1, w.3, w.4))) (λ bytes p q s. (s.0, s.1, λ asked are. s.2 (start_of codes) asked refl are))
