-- Hybrid integers, without their steps: how a token can be spelled (ISO/IEC 18181-1, entropy decoding: hybrid integers).
use Rattle.std.specs.Prelude.{◌≡◌, ℕ, ◌+◌, ◌-◌, ◌/◌, ◌^◌, ◌<◌, ◌≤◌}
use Rattle.jxl_coding_codes.specs.IntegerConfigs.{width_of, whole_of}
use Rattle.jxl_coding_codes.specs.declared.config.IntegerConfig.{IntegerConfig}

-- A symbol that is no token spells this one with as many bits after it as it says; the token has at most 32 bits.
pub record Spells (h : IntegerConfig) (symbol rest token : ℕ) : Type 0 where
  pub beyond : 2 ^ h.split_exponent ≤ symbol
  pub fits : h.split_exponent + (symbol - 2 ^ h.split_exponent) / 2 ^ (h.msb_in_token + h.lsb_in_token) < 32
  pub within : rest < 2 ^ width_of h symbol
  pub whole : whole_of h symbol rest ≡ token
