-- The tokens of an entropy decoder (ISO/IEC 18181-1, entropy decoding).
use Rattle.std.specs.Prelude.{ℕ, ◌+◌, ◌-◌, ◌*◌, ◌^◌, List, length, min, false, if◌then◌else◌, nat_lt, ◌==◌, Option, Some, None, Result, Ok, Err}
use Rattle.jxlm_bits.specs.Decoding.{Found, Taken, Meaning}
use Rattle.jxlm_bits.specs.ErrorKind.{◌>>=◌}
use Rattle.jxlm_bits.specs.declared.decoder.DecoderError.{DecoderError}
use Rattle.jxl_coding_codes.specs.Refusals.{refusal_error}
use Rattle.jxl_coding_codes.specs.declared.refusal.Refusal.TheVariants.{CopyTooLong, EndState, StateTooSmall}
use Rattle.jxl_coding_codes.specs.Fields.{number_at}
use Rattle.jxl_coding_codes.specs.IntegerConfigs.{token_at}
use Rattle.jxl_coding.specs.Symbols.{Codes, cluster_code, symbol_at}
use Rattle.jxl_coding.specs.Copies.{Ring, empty_ring, ring_token, ring_with, tokens_back}
use Rattle.jxl_coding.specs.declared.codes.Lz77.{Lz77}
use Rattle.jxl_coding.specs.declared.codes.Coder.{Coder}
use Rattle.jxl_coding.specs.declared.codes.Coder.TheVariants.{Prefix, Ans}

-- What the results of an entropy decoder's calls depend on: what parse filled, the ANS state, the last tokens, and of
-- the open copy how many tokens back it reads and how many it owes.
pub record Entropy : Type 0 where
  pub codes : Codes
  pub ans_state : ℕ
  pub ring : Ring
  pub distance : ℕ
  pub left : ℕ

-- the state in which a stream of slots ends
abbrev pub end_state : ℕ
end_state = 19 * 2 ^ 16

-- Slots begin in a state of 32 bits, which is at least 2 to the 16; less is refused.
abbrev pub first_state : Coder → ℕ → List ℕ → ℕ → Result (Found ℕ) DecoderError
first_state Prefix ans_state bytes p = Ok (record { value = ans_state; position = p })
first_state Ans ans_state bytes p = do
  state ← number_at bytes p 32
  if nat_lt state.value (2 ^ 16) then Err (refusal_error StateTooSmall) else Ok state

-- a stream begins: no token is kept, no copy is open
unfoldable pub begin_at : Entropy → List ℕ → ℕ → Result (Found Entropy) DecoderError
begin_at s bytes p = do
  ans_state ← first_state s.codes.coder s.ans_state bytes p
  Ok (record { value = record { codes = s.codes; ans_state = ans_state.value; ring = empty_ring; distance = 0; left = 0 }; position = ans_state.position })

-- a token of a cluster, where none are copied
unfoldable pub plain_token : Entropy → List ℕ → ℕ → ℕ → Result (Taken ℕ Entropy) DecoderError
plain_token s bytes p c = do
  symbol ← symbol_at s.codes c s.ans_state bytes p
  token ← token_at (cluster_code s.codes.cluster_codes c).config symbol.symbol bytes symbol.position
  Ok (record { value = token.value; state = record s { ans_state = symbol.ans_state }; position = token.position })

-- the next token of an open copy
abbrev pub copied_token : Entropy → ℕ → Taken ℕ Entropy
copied_token s p = record {
  value = ring_token s.ring s.distance;
  state = record s { ring = ring_with s.ring (ring_token s.ring s.distance); left = s.left - 1 };
  position = p;
}

-- how many tokens are copied; 2 to the 32 and more are refused
abbrev pub copy_length : ℕ → Result ℕ DecoderError
copy_length n = if nat_lt n (2 ^ 32) then Ok n else Err (refusal_error CopyTooLong)

-- A token where tokens are copied and no copy is open: a symbol below the least is one of its cluster, others tell how
-- many are copied; a token of the cluster of distances follows, and the first of the copied ones is read.
unfoldable pub first_token : Lz77 → Entropy → List ℕ → ℕ → ℕ → ℕ → Result (Taken ℕ Entropy) DecoderError
first_token lz77 s bytes p c m = do
  symbol ← symbol_at s.codes c s.ans_state bytes p
  if nat_lt symbol.symbol lz77.min_symbol then (do
    token ← token_at (cluster_code s.codes.cluster_codes c).config symbol.symbol bytes symbol.position
    Ok (record { value = token.value; state = record s { ans_state = symbol.ans_state; ring = ring_with s.ring token.value }; position = token.position }))
      else (do
        more ← token_at lz77.length_config (symbol.symbol - lz77.min_symbol) bytes symbol.position
        many ← copy_length (more.value + lz77.min_length)
        of_distance ← symbol_at s.codes lz77.cluster symbol.ans_state bytes more.position
        distance ← token_at (cluster_code s.codes.cluster_codes lz77.cluster).config of_distance.symbol bytes of_distance.position
        Ok (copied_token (record s { ans_state = of_distance.ans_state; distance = min (tokens_back distance.value m) (length s.ring.tokens); left = many }) distance.position))

-- the same, also where a copy is open
unfoldable pub lz77_token : Lz77 → Entropy → List ℕ → ℕ → ℕ → ℕ → Result (Taken ℕ Entropy) DecoderError
lz77_token lz77 s bytes p c m = if s.left == 0 then first_token lz77 s bytes p c m else Ok (copied_token s p)

-- a token of a cluster, with or without copies
unfoldable pub token_with : Option Lz77 → Entropy → List ℕ → ℕ → ℕ → ℕ → Result (Taken ℕ Entropy) DecoderError
token_with None s bytes p c m = plain_token s bytes p c
token_with (Some lz77) s bytes p c m = lz77_token lz77 s bytes p c m

-- a token of a cluster under a multiplier
abbrev pub read_at : Entropy → List ℕ → ℕ → ℕ → ℕ → Result (Taken ℕ Entropy) DecoderError
read_at s bytes p c m = token_with s.codes.lz77 s bytes p c m

-- the end of a stream: slots that do not end in their last state are refused
abbrev pub end_of : Coder → ℕ → Result (Unit {0}) DecoderError
end_of Prefix ans_state = Ok tt
end_of Ans ans_state = if ans_state == end_state then Ok tt else Err (refusal_error EndState)

-- the only token of a cluster: an only symbol that is a token, where none are copied
abbrev pub only_below : Option ℕ → ℕ → Option ℕ
only_below None split = None
only_below (Some symbol) split = if nat_lt symbol (2 ^ split) then Some symbol else None

-- the only token of cluster c, where none are copied
abbrev pub single_with : Option Lz77 → Codes → ℕ → Option ℕ
single_with (Some lz77) codes c = None
single_with None codes c = only_below (cluster_code codes.cluster_codes c).only (cluster_code codes.cluster_codes c).config.split_exponent

-- The entropy decoder, whatever parse gives. Tokens never come in runs: a copy's distance can depend on the multiplier, so
-- a run could not stand for reads under any of them.
abbrev pub entropy : (List ℕ → ℕ → ℕ → Result (Found Entropy) DecoderError) → Meaning Entropy
entropy parse = record {
  parse = parse;
  begin = begin_at;
  read = read_at;
  finalize = λ s. end_of s.codes.coder s.ans_state;
  cluster_map = λ s. s.codes.clusters;
  single_token = λ s c. single_with s.codes.lz77 s.codes c;
  as_rle = λ s. false;
  owed = λ s. 0;
  last = λ s. 0;
  next = λ s. s;
}
