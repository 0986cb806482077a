-- Hybrid integers: how the symbols of a cluster become tokens (ISO/IEC 18181-1, entropy decoding: hybrid integers).
use Rattle.std.specs.Prelude.{ℕ, ◌+◌, ◌-◌, ◌*◌, ◌/◌, ◌%◌, ◌^◌, ◌≤◌, List, if◌then◌else◌, nat_lt, ◌==◌, Result, Ok, Err}
use Rattle.jxlm_bits.specs.Decoding.{Found}
use Rattle.jxlm_bits.specs.ErrorKind.{◌>>=◌}
use Rattle.jxlm_bits.specs.declared.decoder.DecoderError.{DecoderError}
use Rattle.jxl_coding_codes.specs.Refusals.{refusal_error}
use Rattle.jxl_coding_codes.specs.declared.refusal.Refusal.TheVariants.{TokenBits}
use Rattle.jxl_coding_codes.specs.Fields.{number_at, bit_width_of}
use Rattle.jxl_coding_codes.specs.declared.config.IntegerConfig.{IntegerConfig}

-- The rule of a cluster: symbols below 2 to the split are tokens; of others a symbol tells how long the token is, the
-- bits below its leading one (high) and its last bits (low). Symbols of alphabets up to 2 to the log need no more where
-- the split is the log.
unfoldable pub config_at : List ℕ → ℕ → ℕ → Result (Found IntegerConfig) DecoderError
config_at bytes log p = do
  split ← number_at bytes p (bit_width_of log)
  if split.value == log then Ok (record { value = record { split_exponent = split.value; msb_in_token = 0; lsb_in_token = 0 }; position = split.position }) else (do
    high ← number_at bytes split.position (bit_width_of split.value)
    if nat_lt split.value high.value then Err (refusal_error TokenBits) else (do
      low ← number_at bytes high.position (bit_width_of (split.value - high.value))
      if nat_lt split.value (high.value + low.value) then Err (refusal_error TokenBits) else
          Ok (record { value = record { split_exponent = split.value; msb_in_token = high.value; lsb_in_token = low.value }; position = low.position })))

-- what a rule keeps to
abbrev pub IsConfig : IntegerConfig → Type 0
IsConfig h = (h.split_exponent ≤ 15) × (h.msb_in_token + h.lsb_in_token ≤ h.split_exponent)

-- how many bits follow a symbol that is no token
abbrev pub width_of : IntegerConfig → ℕ → ℕ
width_of h symbol = (h.split_exponent - (h.msb_in_token + h.lsb_in_token) + (symbol - 2 ^ h.split_exponent) / 2 ^ (h.msb_in_token + h.lsb_in_token)) % 32

-- the token of a symbol and the bits that follow it: a leading one, the high bits that the symbol tells, the bits that
-- follow, and the low ones that it tells
abbrev pub whole_of : IntegerConfig → ℕ → ℕ → ℕ
whole_of h symbol rest =
    (((2 ^ h.msb_in_token + symbol / 2 ^ h.lsb_in_token % 2 ^ h.msb_in_token) * 2 ^ width_of h symbol + rest) * 2 ^ h.lsb_in_token + symbol % 2 ^ h.lsb_in_token) % 2 ^ 32

-- the token of a symbol, and the position after the bits that follow it
unfoldable pub token_at : IntegerConfig → ℕ → List ℕ → ℕ → Result (Found ℕ) DecoderError
token_at h symbol bytes p =
    if nat_lt symbol (2 ^ h.split_exponent) then Ok (record { value = symbol; position = p }) else (do
      rest ← number_at bytes p (width_of h symbol)
      Ok (record { value = whole_of h symbol rest.value; position = rest.position }))
