-- The tokens of an encoded profile, and the clusters of their contexts.
use Rattle.std.specs.Prelude.{◌≡◌, ℕ, ◌+◌, ◌-◌, ◌%◌, List, [], ◌∷◌, length, map, reverse, Bool, ◌&&◌, nat_lt, if◌then◌else◌, Ok}
use Rattle.std.specs.List.{range_with_len}
use Rattle.jxlm_bits.specs.Tokens.{coded_tokens}
use Rattle.jxlm_bits.specs.Turns.{chain}
use Rattle.jxlm_bit_writer.specs.declared.token.Token.{Token}
use Rattle.jxl_coding.specs.Parse.{decoder_at}
use Rattle.jxl_coding.specs.Tokens.{entropy}
use Rattle.jxl_codestream.specs.Profiles.{context_of, one_byte}

-- the cluster of a context: where they are separate, one for the header, and one for each kind of the last byte
abbrev pub cluster_in : Bool → ℕ → ℕ
cluster_in separate context = if separate && nat_lt 0 context then 1 + (context - 1) % 8 else 0

-- how many clusters there are then
abbrev pub cluster_count : Bool → ℕ
cluster_count separate = if separate then 9 else 1

-- those of the 41 contexts
abbrev pub clusters_in : Bool → List ℕ
clusters_in separate = map (cluster_in separate) (range_with_len 0 41)

-- bytes one after another in front of others, so that the last is the first
abbrev pub onto : List ℕ → List ℕ → List ℕ
onto [] before = before
onto (byte ∷ bytes) before = onto bytes (byte ∷ before)

-- bytes after these, of which the last is the first in the list, as tokens in the clusters of their contexts
unfoldable pub tokens_after : Bool → List ℕ → List ℕ → List Token
tokens_after separate before [] = []
tokens_after separate before (byte ∷ bytes) = record { cluster = cluster_in separate (context_of before); value = byte } ∷ tokens_after separate (byte ∷ before) bytes

-- from bit p up to bit q stand a decoder of 41 contexts and the tokens of these bytes
abbrev pub IsEncodedAt : List ℕ → List ℕ → ℕ → ℕ → Type 0
IsEncodedAt encoded bytes p q = (coded_tokens (entropy decoder_at) 41 (chain (one_byte (entropy decoder_at)) (length encoded) [])).read bytes p ≡ Ok (record { value = reverse encoded; position = q })
