-- The bits of tokens, by whatever rule tokens of the past are copied (ISO/IEC 18181-1, entropy decoding).
use Rattle.std.specs.Prelude.{◌≡◌, ℕ, ◌+◌, List, [], ◌∷◌, ◌++◌, length, Option, Ok}
use Rattle.jxlm_bit_writer.specs.Written.{HasBits}
use Rattle.jxlm_bit_writer.specs.declared.token.Token.{Token}
use Rattle.jxl_coding_codes.specs.IntegerConfigs.{token_at}
use Rattle.jxl_coding_codes.specs.declared.config.IntegerConfig.{IntegerConfig}
use Rattle.jxl_coding_write.specs.HybridIntegers.{symbol_of}
use Rattle.jxl_coding.specs.Parse.{nothing_coded}
use Rattle.jxl_coding.specs.Symbols.{cluster_code, symbol_at}
use Rattle.jxl_coding.specs.declared.codes.Lz77.{Lz77}
use Rattle.jxl_coding_stream_write.specs.Codes.{codes_with, coded_after}
use Rattle.jxl_coding_stream_write.specs.declared.stream.StreamWriter.{StreamWriter}

-- the configuration of a cluster
abbrev pub config_in : StreamWriter → ℕ → IntegerConfig
config_in w cluster = (cluster_code (coded_after w.log nothing_coded w.codes.items).cluster_codes cluster).config

-- the symbol of a token in its cluster
abbrev pub token_symbol : StreamWriter → Token → ℕ
token_symbol w t = symbol_of (config_in w t.cluster) t.value

-- Wherever these bits are, a decoder of these codes, whatever it copies, reads the symbol of the token from the state before,
-- is in the state after, and reads the token up to the end of the bits.
abbrev pub TokenStands : StreamWriter → Token → ℕ → ℕ → List ℕ → Type 0
TokenStands w t before after bits = (copies : Option Lz77) (bytes : List ℕ) (p : ℕ) → HasBits bytes p bits → (q : ℕ) ×
    (symbol_at (codes_with copies w) t.cluster before bytes p ≡ Ok (record { symbol = token_symbol w t; ans_state = after; position = q })) ×
    (token_at (config_in w t.cluster) (token_symbol w t) bytes q ≡ Ok (record { value = t.value; position = p + length bits }))

-- the same for tokens one after another
abbrev pub TokensStand : StreamWriter → List Token → ℕ → ℕ → List ℕ → Type 0
TokensStand w [] before after bits = (before ≡ after) × (bits ≡ [])
TokensStand w (t ∷ tokens) before after bits = (middle : ℕ) × (one : List ℕ) × (others : List ℕ) ×
    (bits ≡ one ++ others) × TokenStands w t before middle one × TokensStand w tokens middle after others

-- the new bits are those of the token, and the old ones
abbrev pub IsWritten : StreamWriter → Token → ℕ → ℕ → List ℕ → List ℕ → Type 0
IsWritten w t before after new old = (one : List ℕ) × (new ≡ one ++ old) × TokenStands w t before after one

-- the new bits are those of the tokens, and the old ones
abbrev pub AreWritten : StreamWriter → List Token → ℕ → ℕ → List ℕ → List ℕ → Type 0
AreWritten w tokens before after new old = (bits : List ℕ) × (new ≡ bits ++ old) × TokensStand w tokens before after bits
