-- A number that is spelled is read.
use Rattle.std.proofs.Common.{◌≡◌, ℕ, suc, ◌+◌, ◌-◌, ◌*◌, ◌/◌, ◌%◌, ◌^◌, ◌<◌, ◌≤◌, true, false, Ok, refl, ap, ◌∙◌, subst, inl, inr, arith}
use Rattle.std.specs.Prelude.{nat_lt}
use Rattle.std.proofs.lemmas.Bool.{le-ltb, lt-ltb, cases_lt}
use Rattle.std.proofs.lemmas.Nat.{pow_pos, leading_top, mul-add-lt}
use lib.Count.{count_leading_zeros}
use Rattle.std.proofs.Math.Nat.{pow-le-pow_right, mul-le-mul_left, mul_comm}
use Rattle.jxl_coding_codes.specs.Fields.{number_at}
use Rattle.jxl_coding_codes.specs.IntegerConfigs.{IsConfig, width_of, token_at}
use Rattle.jxl_coding_codes.specs.Spellings.{Spells}
use Rattle.jxl_coding_codes.specs.declared.config.IntegerConfig.{IntegerConfig}
use Rattle.jxl_coding_codes.proofs.SomeSpelling.{spelled_by, width_is, from_split, told_bits, first_least}
use Rattle.jxl_coding_write.specs.HybridIntegers.{IsSpelled, symbol_count}
use Rattle.jxl_coding_write.proofs.NumberReads.{number_read}

-- by a spelling
pub read_by : (h : IntegerConfig) (s r token count : ℕ) → Spells h s r token → width_of h s ≡ count → IsSpelled h token s count r
unfolding token_at
read_by h s r token count spells e bytes p has =
    let t : nat_lt s (2 ^ h.split_exponent) ≡ false = le-ltb s (2 ^ h.split_exponent) spells.beyond in
    let within : r < 2 ^ count = subst (λ (n : ℕ). r < 2 ^ n) e spells.within in
    let n : number_at bytes p (width_of h s) ≡ Ok (record { value = r; position = p + count }) = ap (λ (k : ℕ). number_at bytes p k) e ∙ number_read bytes p count r within has in
    rw (t, n, spells.whole) refl

-- a symbol is its own number
pub read_short : (h : IntegerConfig) (token : ℕ) → token < 2 ^ h.split_exponent → IsSpelled h token token 0 0
unfolding token_at
read_short h token lt bytes p has =
    let t : nat_lt token (2 ^ h.split_exponent) ≡ true = lt-ltb token (2 ^ h.split_exponent) lt in
    let z : p ≡ p + 0 = omega arith in
    rw t (ap (λ (q : ℕ). Ok (record { value = token; position = q })) z)

-- the number of bits below the leading one
pub log_is : (value zeros : ℕ) → 0 < value → value < 2 ^ 32 → zeros ≡ count_leading_zeros 32 value → (2 ^ (31 - zeros) ≤ value) × (value < 2 ^ (31 - zeros + 1))
log_is value zeros some fits e =
    let t = leading_top 32 value some fits in
    let j : ℕ = t.0 in
    let all : count_leading_zeros 32 value + suc j ≡ 32 = t.1 in
    let k : j ≡ 31 - zeros = omega (arith, all, e) in
    let m : suc j ≡ 31 - zeros + 1 = omega (arith, k) in
    (subst (λ (n : ℕ). 2 ^ n ≤ value) k t.2, subst (λ (n : ℕ). value < 2 ^ n) m t.3)

sum_below : (s a b x : ℕ) → x ≡ s + a → a < b → x < s + b
sum_below s a b x e lt = omega (arith, e, lt)

pub below_sum : (x s a : ℕ) → x < s → x < s + a
below_sum x s a lt = omega (arith, lt)

-- the symbols of a configuration are counted in 32 bits
pub count_small : (h : IntegerConfig) → IsConfig h → (32 - h.split_exponent) * 2 ^ (h.msb_in_token + h.lsb_in_token) ≤ 2 ^ 20
count_small h valid =
    let narrow : h.msb_in_token + h.lsb_in_token ≤ 15 = let x = valid.0 in let y = valid.1 in omega (arith, x, y) in
    let b : 2 ^ (h.msb_in_token + h.lsb_in_token) ≤ 2 ^ 15 = pow-le-pow_right {n = 2} (omega arith) narrow in
    let c : (32 - h.split_exponent) * 2 ^ (h.msb_in_token + h.lsb_in_token) ≤ (32 - h.split_exponent) * 2 ^ 15 = mul-le-mul_left (32 - h.split_exponent) b in
    omega (arith, c)

pub split_small : (h : IntegerConfig) → IsConfig h → 2 ^ h.split_exponent ≤ 2 ^ 15
split_small h valid = pow-le-pow_right {n = 2} (omega arith) valid.0

pub shorter : (n : ℕ) → n + 1 ≡ suc n
shorter n = omega arith

module _ (h : IntegerConfig) (valid : IsConfig h) (n token : ℕ) (few : n < 32) (least : 2 ^ n ≤ token) (most_one : token < 2 ^ (n + 1)) (long : h.split_exponent ≤ n) where
  most : token < 2 ^ suc n
  most = rw (shorter n) at most_one

  abbrev pub low : ℕ
  low = 2 ^ h.lsb_in_token

  abbrev pub high : ℕ
  high = 2 ^ h.msb_in_token

  abbrev pub known : ℕ
  known = h.msb_in_token + h.lsb_in_token

  abbrev pub wide : ℕ
  wide = 2 ^ (n - known)

  abbrev pub told_of : ℕ
  told_of = token / low / wide - high

  abbrev pub steps_of : ℕ
  steps_of = 2 ^ (h.split_exponent - known) + (n - h.split_exponent)

  abbrev pub symbol_of : ℕ
  symbol_of = (steps_of * high + told_of) * low + token % low

  pub leading : high ≤ token / low / wide
  leading = first_least h.split_exponent h.msb_in_token h.lsb_in_token n token valid.1 long few least most

  symbol_parts : symbol_of ≡ 2 ^ h.split_exponent + ((n - h.split_exponent) * 2 ^ known + (told_of * low + token % low))
  symbol_parts = from_split h.split_exponent h.msb_in_token h.lsb_in_token n token valid.1 long few least most

  bits_below : told_of * low + token % low < 2 ^ known
  bits_below = told_bits h.split_exponent h.msb_in_token h.lsb_in_token n token valid.1 long few least most

  pub symbol_small : symbol_of < 2 ^ 21
  symbol_small =
      let a : 2 ^ h.split_exponent ≤ 2 ^ 15 = pow-le-pow_right {n = 2} (omega arith) valid.0 in
      let narrow : known ≤ 15 = let x = valid.0 in let y = valid.1 in omega (arith, x, y) in
      let b : 2 ^ known ≤ 2 ^ 15 = pow-le-pow_right {n = 2} (omega arith) narrow in
      let c : (n - h.split_exponent) * 2 ^ known ≤ (n - h.split_exponent) * 2 ^ 15 = mul-le-mul_left (n - h.split_exponent) b in
      let p = symbol_parts in
      let q = bits_below in
      omega (arith, a, b, c, p, q, few)

  pub symbol_few : symbol_of < symbol_count h
  symbol_few =
      let step : n - h.split_exponent < 32 - h.split_exponent = omega (arith, few, long) in
      let m : (n - h.split_exponent) * 2 ^ known + (told_of * low + token % low) < 2 ^ known * (32 - h.split_exponent) =
      mul-add-lt (n - h.split_exponent) (2 ^ known) (told_of * low + token % low) (32 - h.split_exponent) step bits_below in
      sum_below (2 ^ h.split_exponent) ((n - h.split_exponent) * 2 ^ known + (told_of * low + token % low)) ((32 - h.split_exponent) * 2 ^ known) symbol_of symbol_parts
      (rw (mul_comm (2 ^ known) (32 - h.split_exponent)) at m)

  pub times_low_small : (steps_of * high + told_of) * low < 2 ^ 21
  times_low_small = let s = symbol_small in omega (arith, s)

  no_more : (a b : ℕ) → 0 < b → a ≤ a * b
  no_more a b some = let m : a * 1 ≤ a * b = mul-le-mul_left a some in omega (arith, m)

  pub sum_small : steps_of * high + told_of < 2 ^ 21
  sum_small = let m = no_more (steps_of * high + told_of) low (pow_pos h.lsb_in_token) in let s = times_low_small in omega (arith, m, s)

  pub product_small : steps_of * high < 2 ^ 21
  product_small = let s = sum_small in omega (arith, s)

  pub spelled : 2 ^ h.split_exponent ≤ token → token < 2 ^ 32 → IsSpelled h token symbol_of (n - known) (token / low % wide)
  spelled beyond fits =
      read_by h symbol_of (token / low % wide) token (n - known) (spelled_by h valid token beyond fits n few least most long)
      (width_is h.split_exponent h.msb_in_token h.lsb_in_token n token valid.1 long few least most)

pub not_longer_one : (split n token : ℕ) → 2 ^ split ≤ token → token < 2 ^ (n + 1) → split ≤ n
not_longer_one split n token beyond most =
    elim (cases_lt n split) [
      | inl lt ↦ let up : 2 ^ (n + 1) ≤ 2 ^ split = pow-le-pow_right {n = 2} (omega arith) (omega (arith, lt)) in absurd (omega (arith, up, most, beyond))
      | inr le ↦ le
    ]
