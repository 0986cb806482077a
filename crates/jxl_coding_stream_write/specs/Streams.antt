-- Streams of tokens: what a decoder of these codes reads of their bits (ISO/IEC 18181-1, entropy decoding).
use Rattle.std.specs.Prelude.{◌≡◌, ℕ, ◌+◌, ◌≤◌, List, length, map, Ok}
use Rattle.jxlm_bits.specs.Decoding.{Asked, reads}
use Rattle.jxlm_bit_writer.specs.ReadStreams.{IsRead}
use Rattle.jxlm_bit_writer.specs.Written.{HasBits}
use Rattle.jxl_coding.specs.Copies.{empty_ring}
use Rattle.jxl_coding.specs.Parse.{decoder_at}
use Rattle.jxl_coding.specs.Symbols.{Codes}
use Rattle.jxl_coding.specs.Tokens.{Entropy, begin_at, end_of, end_state, entropy}
use Rattle.jxlm_bit_writer.specs.declared.token.Token.{Token}

-- the decoder of these codes in a state of a stream, without copies
abbrev pub in_stream : Codes → ℕ → Entropy
in_stream codes ans_state = record { codes = codes; ans_state = ans_state; ring = empty_ring; distance = 0; left = 0 }

-- the caller asks for the clusters of these tokens, under any multipliers
abbrev pub AreAsked : List Asked → List Token → Type 0
AreAsked asked tokens = map (λ a. a.cluster) asked ≡ map (λ t. t.cluster) tokens

-- from this state on the decoder reads these tokens from the bits, wherever they are, and is in the end state after the last
abbrev pub Reads : Codes → ℕ → List Token → List ℕ → Type 0
Reads codes before tokens bits = (bytes : List ℕ) (p : ℕ) (asked : List Asked) → AreAsked asked tokens → HasBits bytes p bits →
    reads (entropy decoder_at) (in_stream codes before) bytes p asked
    ≡ Ok (record { value = map (λ t. t.value) tokens; state = in_stream codes end_state; position = p + length bits })

-- Wherever these bits are, the decoder begins a stream, reads these tokens one after another up to the end of the bits, and
-- accepts the end.
pub record IsStream (codes : Codes) (tokens : List Token) (bits : List ℕ) : Type 0 where
  pub first : ℕ
  pub long : 32 ≤ length bits
  pub begins : (bytes : List ℕ) (p : ℕ) (s : Entropy) → s.codes ≡ codes → HasBits bytes p bits →
      begin_at s bytes p ≡ Ok (record { value = in_stream codes first; position = p + 32 })
  pub reads_all : (bytes : List ℕ) (p : ℕ) (asked : List Asked) → AreAsked asked tokens → HasBits bytes p bits →
      reads (entropy decoder_at) (in_stream codes first) bytes (p + 32) asked
      ≡ Ok (record { value = map (λ t. t.value) tokens; state = in_stream codes end_state; position = p + length bits })
  pub ends : end_of codes.coder end_state ≡ Ok tt

-- A decoder of its codes, in any state, reads a written stream.
abbrev pub StreamsAreRead : Type 0
StreamsAreRead = (codes : Codes) (tokens : List Token) (bits : List ℕ) (s : Entropy) (bytes : List ℕ) (p : ℕ) (asked : List Asked) →
    IsStream codes tokens bits → s.codes ≡ codes → AreAsked asked tokens → HasBits bytes p bits →
    IsRead (entropy decoder_at) s bytes p asked (map (λ t. t.value) tokens) (p + length bits)
