-- The token of a hybrid integer, as it is computed.
use Rattle.std.proofs.Common.{◌≡◌, ℕ, ◌+◌, ◌-◌, ◌*◌, ◌/◌, ◌%◌, ◌^◌, ◌≤◌, List, false, nat_lt, Ok, refl, ◌∙◌, arith}
use Rattle.std.proofs.lemmas.Bool.Decides.{nat_tests}
use Rattle.jxl_coding_codes.specs.Fields.{number_at}
use Rattle.jxl_coding_codes.specs.IntegerConfigs.{token_at, width_of, whole_of}
use Rattle.jxl_coding_codes.specs.declared.config.IntegerConfig.{IntegerConfig}
use Rattle.jxl_coding_codes.proofs.Wraps.{wraps, width_wraps}

-- beyond the split
beyond : (h : IntegerConfig) (symbol rest q : ℕ) (bytes : List ℕ) (p : ℕ) → 2 ^ h.split_exponent ≤ symbol →
    number_at bytes p (width_of h symbol) ≡ Ok (record { value = rest; position = q }) →
    token_at h symbol bytes p ≡ Ok (record { value = whole_of h symbol rest; position = q })
unfolding token_at
beyond h symbol rest q bytes p le n =
    let e : nat_lt symbol (2 ^ h.split_exponent) ≡ false = grind (arith, nat_tests) in
    rw (e, n) refl

-- the width that wraps is the width
width_is : (h : IntegerConfig) (symbol s k : ℕ) → s ≡ 2 ^ h.split_exponent → k ≡ 2 ^ (h.msb_in_token + h.lsb_in_token) →
    ((symbol - s) / k + (h.split_exponent - (h.msb_in_token + h.lsb_in_token))) % 4294967296 % 32 ≡ width_of h symbol
width_is h symbol s k e f = rw (e, f) (width_wraps ((symbol - 2 ^ h.split_exponent) / 2 ^ (h.msb_in_token + h.lsb_in_token)) (h.split_exponent - (h.msb_in_token + h.lsb_in_token)))

pub token_given : (h : IntegerConfig) (symbol rest q : ℕ) (bytes : List ℕ) (p s k w high low wide : ℕ) → s ≡ 2 ^ h.split_exponent → k ≡ 2 ^ (h.msb_in_token + h.lsb_in_token) →
    high ≡ 2 ^ h.msb_in_token → low ≡ 2 ^ h.lsb_in_token → w ≡ ((symbol - s) / k + (h.split_exponent - (h.msb_in_token + h.lsb_in_token))) % 4294967296 % 32 → wide ≡ 2 ^ w → s ≤ symbol →
    number_at bytes p w ≡ Ok (record { value = rest; position = q }) →
    token_at h symbol bytes p ≡ Ok (record { value = (((high + symbol / low % high) * wide % 4294967296 + rest) % 4294967296 * low % 4294967296 + symbol % low) % 4294967296; position = q })
token_given h symbol rest q bytes p s k w high low wide es ek eh el ew ewide le n =
    let same : w ≡ width_of h symbol = ew ∙ width_is h symbol s k es ek in
    let value : (((high + symbol / low % high) * wide % 4294967296 + rest) % 4294967296 * low % 4294967296 + symbol % low) % 4294967296 ≡ whole_of h symbol rest =
    rw (ewide, same, eh, el) (wraps (2 ^ h.msb_in_token + symbol / 2 ^ h.lsb_in_token % 2 ^ h.msb_in_token) (2 ^ width_of h symbol) rest (2 ^ h.lsb_in_token) (symbol % 2 ^ h.lsb_in_token)) in
    rw value (beyond h symbol rest q bytes p (rw es at le) (rw same at n))
