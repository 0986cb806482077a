-- The symbol of a token, and the bits after it.
use Rattle.std.proofs.Common.{◌≡◌, ℕ, zero, suc, ◌+◌, ◌-◌, ◌*◌, ◌/◌, ◌%◌, ◌^◌, ◌<◌, ◌≤◌, add-mul, mul-le-mul_left, Option, Some, None, Bool, true, false, cond, refl, sym, ap, ◌∙◌, subst, arith}
use Rattle.std.specs.Prelude.{nat_lt, is_some}
use Rattle.std.specs.Int.{w32, leading_zeros}
use Rattle.std.proofs.lemmas.Bool.{lt-ltb, le-ltb}
use Rattle.std.proofs.lemmas.Nat.{pow_pos}
use Rattle.std.proofs.Math.Nat.{pow-le-pow_right, pow-suc}
use Rattle.jxl_coding_codes.specs.IntegerConfigs.{IsConfig}
use Rattle.jxl_coding_codes.specs.declared.config.IntegerConfig.{IntegerConfig}
use Rattle.jxl_coding_write.specs.HybridIntegers.{IsSpelled, long_symbol, symbol_of}
use Rattle.jxl_coding_stream_write.specs.declared.cluster.ClusterWriter.{ClusterWriter}
use Rattle.jxl_coding_write.proofs.Spellings.{not_longer_one, read_short, spelled, leading, sum_small, times_low_small, symbol_small}

-- a token below the split
pub short_symbol : (h : IntegerConfig) (token : ℕ) → token < 2 ^ h.split_exponent → symbol_of h token ≡ token
short_symbol h token lt =
    let t : nat_lt token (2 ^ h.split_exponent) ≡ true = lt-ltb token (2 ^ h.split_exponent) lt in
    ap (λ (b : Bool). cond b token (long_symbol h (31 - leading_zeros w32 token) token)) t

pub short_rest : (h : IntegerConfig) (token : ℕ) → token < 2 ^ h.split_exponent → IsSpelled h token (symbol_of h token) 0 0
short_rest h token lt = subst (λ (s : ℕ). IsSpelled h token s 0 0) (sym (short_symbol h token lt)) (read_short h token lt)

-- another
symbol_long : (h : IntegerConfig) (n token : ℕ) → 2 ^ h.split_exponent ≤ token → n ≡ 31 - leading_zeros w32 token → long_symbol h n token ≡ symbol_of h token
symbol_long h n token beyond e =
    let t : nat_lt token (2 ^ h.split_exponent) ≡ false = le-ltb token (2 ^ h.split_exponent) beyond in
    ap (λ (k : ℕ). long_symbol h k token) e ∙ sym (ap (λ (b : Bool). cond b token (long_symbol h (31 - leading_zeros w32 token) token)) t)

pub rest_spelled : (h : IntegerConfig) → IsConfig h → (n token low : ℕ) → n < 32 → 2 ^ n ≤ token → token < 2 ^ (n + 1) → 2 ^ h.split_exponent ≤ token → token < 2 ^ 32 → n ≡ 31 - leading_zeros w32 token → low ≡ 2 ^ h.lsb_in_token →
    IsSpelled h token (symbol_of h token) (n - (h.msb_in_token + h.lsb_in_token)) (token / low % 2 ^ (n - (h.msb_in_token + h.lsb_in_token)))
rest_spelled h valid n token low few least most beyond fits e l =
    let long : h.split_exponent ≤ n = not_longer_one h.split_exponent n token beyond most in
    let all : IsSpelled h token (long_symbol h n token) (n - (h.msb_in_token + h.lsb_in_token)) (token / 2 ^ h.lsb_in_token % 2 ^ (n - (h.msb_in_token + h.lsb_in_token))) =
    spelled h valid n token few least most long beyond fits in
    subst (λ (s : ℕ). IsSpelled h token s (n - (h.msb_in_token + h.lsb_in_token)) (token / low % 2 ^ (n - (h.msb_in_token + h.lsb_in_token)))) (symbol_long h n token beyond e)
    (subst (λ (x : ℕ). IsSpelled h token (long_symbol h n token) (n - (h.msb_in_token + h.lsb_in_token)) (token / x % 2 ^ (n - (h.msb_in_token + h.lsb_in_token)))) (sym l) all)

-- if the symbol has none of the lowest bits
pub upper_spelled : (h : IntegerConfig) → IsConfig h → (n token : ℕ) → n < 32 → 2 ^ n ≤ token → token < 2 ^ (n + 1) → 2 ^ h.split_exponent ≤ token → n ≡ 31 - leading_zeros w32 token → h.lsb_in_token ≡ 0 →
    IsSpelled h token (symbol_of h token) (n - h.msb_in_token) (token % 2 ^ (n - h.msb_in_token))
upper_spelled h valid n token few least most beyond e none =
    let short : n + 1 ≤ 32 = omega (arith, few) in
    let top : 2 ^ (n + 1) ≤ 2 ^ 32 = pow-le-pow_right {n = 2} (omega arith) short in
    let w : n - (h.msb_in_token + h.lsb_in_token) ≡ n - h.msb_in_token = omega (arith, none) in
    let one : 2 ^ h.lsb_in_token ≡ 1 = ap (λ x. 2 ^ x) none in
    let d : token / 1 ≡ token = omega arith in
    let all : IsSpelled h token (symbol_of h token) (n - (h.msb_in_token + h.lsb_in_token)) (token / 1 % 2 ^ (n - (h.msb_in_token + h.lsb_in_token))) =
    rest_spelled h valid n token 1 few least most beyond (omega (arith, top, most)) e (sym one) in
    subst (λ (k : ℕ). IsSpelled h token (symbol_of h token) k (token % 2 ^ k)) w
    (subst (λ (x : ℕ). IsSpelled h token (symbol_of h token) (n - (h.msb_in_token + h.lsb_in_token)) (x % 2 ^ (n - (h.msb_in_token + h.lsb_in_token)))) d all)

-- the bits below the leading one are at least those that the symbol tells
pub known_below : (h : IntegerConfig) → IsConfig h → (n token : ℕ) → 2 ^ h.split_exponent ≤ token → token < 2 ^ (n + 1) → h.msb_in_token + h.lsb_in_token ≤ n
known_below h valid n token beyond most =
    let long = not_longer_one h.split_exponent n token beyond most in
    let v = valid.1 in
    omega (arith, long, v)

module _ (o : Option ℕ) (split coded token : ℕ) (none : o ≡ None → coded ≡ split) (some : (symbol : ℕ) → o ≡ Some symbol → coded ≡ 0) where
  -- tokens below the one limit are not of an only symbol
  pub coded_none : token < coded → is_some o ≡ false
  coded_none lt = by o refl
    where
      by : (p : Option ℕ) → o ≡ p → is_some p ≡ false
      by (Some symbol) e = let z = some symbol e in absurd (omega (arith, z, lt))
      by None e = refl

  pub coded_short : token < coded → token < split
  coded_short lt = by o refl
    where
      by : (p : Option ℕ) → o ≡ p → token < split
      by (Some symbol) e = let z = some symbol e in absurd (omega (arith, z, lt))
      by None e = let z = none e in omega (arith, z, lt)

  -- tokens between the limits are of an only symbol
  pub split_some : coded ≤ token → token < split → is_some o ≡ true
  split_some le lt = by o refl
    where
      by : (p : Option ℕ) → o ≡ p → is_some p ≡ true
      by (Some symbol) e = refl
      by None e = let z = none e in absurd (omega (arith, z, le, lt))

-- the symbol of a token that is not below the split, by the steps before the split
module _ (h : IntegerConfig) (valid : IsConfig h) (n token steps : ℕ) (few : n < 32) (least : 2 ^ n ≤ token) (most : token < 2 ^ (n + 1)) (beyond : 2 ^ h.split_exponent ≤ token)
    (steps_is : steps + 1 ≡ 2 ^ (h.split_exponent - (h.msb_in_token + h.lsb_in_token))) where
  pub long : h.split_exponent ≤ n
  long = not_longer_one h.split_exponent n token beyond most

  abbrev pub lead_of : ℕ
  lead_of = token / 2 ^ h.lsb_in_token / 2 ^ (n - (h.msb_in_token + h.lsb_in_token))

  -- the bits of the symbol above its lowest
  pub upper_is : (n - h.split_exponent + steps) * 2 ^ h.msb_in_token + lead_of
      ≡ (2 ^ (h.split_exponent - (h.msb_in_token + h.lsb_in_token)) + (n - h.split_exponent)) * 2 ^ h.msb_in_token + (lead_of - 2 ^ h.msb_in_token)
  upper_is =
      let m : ℕ = n - h.split_exponent in
      let e : 2 ^ (h.split_exponent - (h.msb_in_token + h.lsb_in_token)) + m ≡ m + steps + 1 = omega (arith, steps_is) in
      let p : (2 ^ (h.split_exponent - (h.msb_in_token + h.lsb_in_token)) + m) * 2 ^ h.msb_in_token ≡ (m + steps) * 2 ^ h.msb_in_token + 1 * 2 ^ h.msb_in_token = ap (λ x. x * 2 ^ h.msb_in_token) e ∙ add-mul (m + steps) 1 (2 ^ h.msb_in_token) in
      let l : 2 ^ h.msb_in_token ≤ lead_of = leading h valid n token few least most long in
      omega (arith, p, l)

  pub upper_small : (n - h.split_exponent + steps) * 2 ^ h.msb_in_token + lead_of < 2 ^ 21
  upper_small = let u = upper_is in let s = sum_small h valid n token few least most long in omega (arith, u, s)

  pub steps_few : n - h.split_exponent + steps < 2 ^ 21
  steps_few =
      let u = upper_small in
      let m : (n - h.split_exponent + steps) * 1 ≤ (n - h.split_exponent + steps) * 2 ^ h.msb_in_token = mul-le-mul_left (n - h.split_exponent + steps) (pow_pos h.msb_in_token) in
      omega (arith, u, m)

  pub shifted_small : ((n - h.split_exponent + steps) * 2 ^ h.msb_in_token + lead_of) * 2 ^ h.lsb_in_token < 2 ^ 21
  shifted_small = rw upper_is (times_low_small h valid n token few least most long)

  pub all_small : ((n - h.split_exponent + steps) * 2 ^ h.msb_in_token + lead_of) * 2 ^ h.lsb_in_token + token % 2 ^ h.lsb_in_token < 2 ^ 21
  all_small = rw upper_is (symbol_small h valid n token few least most long)

  pub symbol_is : n ≡ 31 - leading_zeros w32 token → ((n - h.split_exponent + steps) * 2 ^ h.msb_in_token + lead_of) * 2 ^ h.lsb_in_token + token % 2 ^ h.lsb_in_token ≡ symbol_of h token
  symbol_is e = ap (λ x. x * 2 ^ h.lsb_in_token + token % 2 ^ h.lsb_in_token) upper_is ∙ symbol_long h n token beyond e

  -- if it has no lowest bits
  pub symbol_is_upper : n ≡ 31 - leading_zeros w32 token → h.lsb_in_token ≡ 0 → (n - h.split_exponent + steps) * 2 ^ h.msb_in_token + lead_of ≡ symbol_of h token
  symbol_is_upper e none =
      let one : 2 ^ h.lsb_in_token ≡ 1 = ap (λ x. 2 ^ x) none in
      let u : ℕ = (n - h.split_exponent + steps) * 2 ^ h.msb_in_token + lead_of in
      let a : u * 2 ^ h.lsb_in_token ≡ u * 1 = ap (λ x. u * x) one in
      let b : token % 2 ^ h.lsb_in_token ≡ token % 1 = ap (λ x. token % x) one in
      let s = symbol_is e in
      omega (arith, a, b, s)

  lead_upper : h.lsb_in_token ≡ 0 → lead_of ≡ token / 2 ^ (n - h.msb_in_token)
  lead_upper none =
      let one : 2 ^ h.lsb_in_token ≡ 1 = ap (λ x. 2 ^ x) none in
      let d : token / 1 ≡ token = omega arith in
      let w : n - (h.msb_in_token + h.lsb_in_token) ≡ n - h.msb_in_token = omega (arith, none) in
      ap (λ x. token / x / 2 ^ (n - (h.msb_in_token + h.lsb_in_token))) one
      ∙ ap (λ x. x / 2 ^ (n - (h.msb_in_token + h.lsb_in_token))) d
      ∙ ap (λ x. token / 2 ^ x) w

  module _ (none : h.lsb_in_token ≡ 0) (high wide : ℕ) (high_is : high ≡ 2 ^ h.msb_in_token) (wide_is : wide ≡ 2 ^ (n - h.msb_in_token)) where
    by_powers : (n - h.split_exponent + steps) * high + token / wide ≡ (n - h.split_exponent + steps) * 2 ^ h.msb_in_token + lead_of
    by_powers =
        ap (λ x. (n - h.split_exponent + steps) * x + token / wide) high_is
        ∙ ap (λ x. (n - h.split_exponent + steps) * 2 ^ h.msb_in_token + token / x) wide_is
        ∙ ap (λ x. (n - h.split_exponent + steps) * 2 ^ h.msb_in_token + x) (sym (lead_upper none))

    pub upper_fits : (n - h.split_exponent + steps) * high + token / wide < 2 ^ 21
    upper_fits = subst (λ (x : ℕ). x < 2 ^ 21) (sym by_powers) upper_small

    pub upper_symbol : n ≡ 31 - leading_zeros w32 token → (n - h.split_exponent + steps) * high + token / wide ≡ symbol_of h token
    upper_symbol e = by_powers ∙ symbol_is_upper e none

-- a number is below its power of 2
pub below_power : (n : ℕ) → n < 2 ^ n
below_power zero = omega arith
below_power (suc n) = let p = pow-suc 2 n in let b = below_power n in omega (arith, b, p)

-- the symbol by the bits that follow it, if it has none of the lowest bits
module _ (h : IntegerConfig) (valid : IsConfig h) (n token base : ℕ) (few : n < 32) (least : 2 ^ n ≤ token) (most : token < 2 ^ (n + 1)) (beyond : 2 ^ h.split_exponent ≤ token)
    (base_is : base + (h.split_exponent - h.msb_in_token) + 1 ≡ 2 ^ (h.split_exponent - h.msb_in_token)) (none : h.lsb_in_token ≡ 0) where
  abbrev pub steps_of : ℕ
  steps_of = base + (h.split_exponent - h.msb_in_token)

  steps_are : steps_of + 1 ≡ 2 ^ (h.split_exponent - (h.msb_in_token + h.lsb_in_token))
  steps_are = let e : h.split_exponent - h.msb_in_token ≡ h.split_exponent - (h.msb_in_token + h.lsb_in_token) = omega (arith, none) in base_is ∙ ap (λ k. 2 ^ k) e

  same_steps : n - h.msb_in_token + base ≡ n - h.split_exponent + steps_of
  same_steps = let l = not_longer_one h.split_exponent n token beyond most in let v = valid.1 in omega (arith, l, v)

  pub width_few : n - h.msb_in_token + base < 2 ^ 21
  width_few = subst (λ (x : ℕ). x < 2 ^ 21) (sym same_steps) (steps_few h valid n token steps_of few least most beyond steps_are)

  module _ (high wide : ℕ) (high_is : high ≡ 2 ^ h.msb_in_token) (wide_is : wide ≡ 2 ^ (n - h.msb_in_token)) where
    same_symbol : (n - h.msb_in_token + base) * high + token / wide ≡ (n - h.split_exponent + steps_of) * high + token / wide
    same_symbol = ap (λ x. x * high + token / wide) same_steps

    pub width_fits : (n - h.msb_in_token + base) * high + token / wide < 2 ^ 21
    width_fits = subst (λ (x : ℕ). x < 2 ^ 21) (sym same_symbol) (upper_fits h valid n token steps_of few least most beyond steps_are none high wide high_is wide_is)

    pub width_symbol : n ≡ 31 - leading_zeros w32 token → (n - h.msb_in_token + base) * high + token / wide ≡ symbol_of h token
    width_symbol e = same_symbol ∙ upper_symbol h valid n token steps_of few least most beyond steps_are none high wide high_is wide_is e

-- the tokens that are symbols without bits are below the split
pub coded_split : (c : ClusterWriter) (token : ℕ) → token < c.coded → token < 2 ^ c.config.split_exponent
coded_split c token lt = let s = coded_short c.only c.split c.coded token c.coded_none c.coded_some lt in let e = c.split_is in omega (arith, e, s)
