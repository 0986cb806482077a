-- Streams of tokens, some of which are copies of tokens of the past (ISO/IEC 18181-1, entropy decoding: LZ77).
use Rattle.std.specs.Prelude.{◌≡◌, ℕ, ◌+◌, ◌-◌, ◌<◌, List, length, map, get_or}
use Rattle.std.specs.List.{All}
use Rattle.jxlm_bits.specs.Decoding.{Asked}
use Rattle.jxlm_bit_writer.specs.ReadStreams.{IsRead}
use Rattle.jxlm_bit_writer.specs.Written.{HasBits}
use Rattle.jxlm_bit_writer.specs.declared.token.Token.{Token}
use Rattle.jxl_coding_write.specs.HybridIntegers.{symbol_of}
use Rattle.jxl_coding.specs.Parse.{decoder_at}
use Rattle.jxl_coding.specs.Symbols.{Codes}
use Rattle.jxl_coding.specs.Tokens.{Entropy, entropy}
use Rattle.jxl_coding.specs.declared.codes.Lz77.{Lz77}
use Rattle.jxl_coding_stream_write.specs.Streams.{AreAsked}
use Rattle.jxl_coding_stream_write.specs.declared.cluster.ClusterWriter.{ClusterWriter}

-- the caller asks for the clusters of these tokens, under multipliers that are not 0
pub record AreAskedWide (asked : List Asked) (tokens : List Token) : Type 0 where
  pub clusters : AreAsked asked tokens
  pub wide : All (λ a. 0 < a.multiplier) asked

-- Wherever these bits are, a decoder of these codes, in any state, reads these tokens up to the end of the bits, and accepts the
-- end.
abbrev pub IsCopiedStream : Codes → List Token → List ℕ → Type 0
IsCopiedStream codes tokens bits = (s : Entropy) (bytes : List ℕ) (p : ℕ) (asked : List Asked) →
    s.codes ≡ codes → AreAskedWide asked tokens → HasBits bytes p bits →
    IsRead (entropy decoder_at) s bytes p asked (map (λ t. t.value) tokens) (p + length bits)

-- the symbol of the length of a copy
abbrev pub length_symbol : Lz77 → ℕ → ℕ
length_symbol rule many = rule.min_symbol + symbol_of rule.length_config (many - rule.min_length)

-- the symbol of a token in its cluster is below those of copies
abbrev pub IsBelowCopies : Lz77 → List ClusterWriter → Token → Type 0
IsBelowCopies rule codes token = (d : ClusterWriter) → symbol_of (get_or codes token.cluster d).config token.value < rule.min_symbol
