-- A number as a symbol and the bits that follow it (ISO/IEC 18181-1, entropy decoding: hybrid integers).
use Rattle.std.specs.Prelude.{◌≡◌, ℕ, ◌+◌, ◌-◌, ◌*◌, ◌/◌, ◌%◌, ◌^◌, List, nat_lt, if◌then◌else◌, Ok}
use Rattle.std.specs.Int.{w32, leading_zeros}
use Rattle.jxlm_bit_writer.specs.Written.{digits, HasBits}
use Rattle.jxl_coding_codes.specs.IntegerConfigs.{token_at}
use Rattle.jxl_coding_codes.specs.declared.config.IntegerConfig.{IntegerConfig}

-- the decoder reads the number after this symbol, if these bits follow it
abbrev pub IsSpelled : IntegerConfig → ℕ → ℕ → ℕ → ℕ → Type 0
IsSpelled h token symbol count value = (bytes : List ℕ) (p : ℕ) → HasBits bytes p (digits count value) →
    token_at h symbol bytes p ≡ Ok (record { value = token; position = p + count })

-- the symbol of a number that is not below the split and has n bits below its leading one
abbrev pub long_symbol : IntegerConfig → ℕ → ℕ → ℕ
long_symbol h n token =
    ((2 ^ (h.split_exponent - (h.msb_in_token + h.lsb_in_token)) + (n - h.split_exponent)) * 2 ^ h.msb_in_token
    + (token / 2 ^ h.lsb_in_token / 2 ^ (n - (h.msb_in_token + h.lsb_in_token)) - 2 ^ h.msb_in_token)) * 2 ^ h.lsb_in_token
    + token % 2 ^ h.lsb_in_token

-- the symbol of a number
abbrev pub symbol_of : IntegerConfig → ℕ → ℕ
symbol_of h token = if nat_lt token (2 ^ h.split_exponent) then token else long_symbol h (31 - leading_zeros w32 token) token

-- a number below 2^32 has a symbol below this
abbrev pub symbol_count : IntegerConfig → ℕ
symbol_count h = 2 ^ h.split_exponent + (32 - h.split_exponent) * 2 ^ (h.msb_in_token + h.lsb_in_token)
