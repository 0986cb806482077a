-- Each token beyond the split has a spelling.
use Rattle.std.specs.Prelude.{◌≡◌, ℕ, suc, ◌+◌, ◌-◌, ◌*◌, ◌/◌, ◌%◌, ◌^◌, ◌<◌, ◌≤◌}
use Rattle.std.proofs.Common.{sym, ap, ◌∙◌, inl, inr, arith}
use Rattle.std.proofs.lemmas.Bool.{cases_lt}
use Rattle.std.proofs.lemmas.Nat.{pow_pos, pow-add, leading_top, div-mul-add, mod-mul-add, mul-add-lt, div-add-mod', mod_below, div_below, le-div}
use Rattle.std.proofs.Math.Nat.{mul_assoc, mul_comm, add-mul, pow-suc, pow-le-pow_right, mod-eq_of_lt}
use lib.Count.{count_leading_zeros}
use Rattle.jxl_coding_codes.specs.IntegerConfigs.{IsConfig, width_of}
use Rattle.jxl_coding_codes.specs.Spellings.{Spells}
use Rattle.jxl_coding_codes.specs.declared.config.IntegerConfig.{IntegerConfig}

-- a token of n bits below its leading one: the symbol that spells it, by the bits that it tells, and those that follow
module _ (split high low n token : ℕ) (tells : high + low ≤ split) (long : split ≤ n) (few : n < 32) (least : 2 ^ n ≤ token) (most : token < 2 ^ suc n) where
  abbrev pub width : ℕ
  width = n - (high + low)

  abbrev pub upper : ℕ
  upper = token / 2 ^ low

  abbrev pub lower : ℕ
  lower = token % 2 ^ low

  abbrev pub first : ℕ
  first = upper / 2 ^ width

  abbrev pub rest : ℕ
  rest = upper % 2 ^ width

  abbrev pub told : ℕ
  told = first - 2 ^ high

  abbrev pub steps_up : ℕ
  steps_up = 2 ^ (split - (high + low)) + (n - split)

  abbrev pub symbol : ℕ
  symbol = (steps_up * 2 ^ high + told) * 2 ^ low + lower

  parts : width + high + low ≡ n
  parts = omega arith

  upper_least : 2 ^ (width + high) ≤ upper
  upper_least = le-div (2 ^ (width + high)) token (2 ^ low) (pow_pos low) (rw (← (pow-add 2 (width + high) low), parts) least)

  upper_most : upper < 2 ^ suc (width + high)
  upper_most =
      let e : suc (width + high) + low ≡ suc n = omega arith in
      div_below token (2 ^ low) (2 ^ suc (width + high)) (pow_pos low) (rw (← (pow-add 2 (suc (width + high)) low), e) most)

  pub first_least : 2 ^ high ≤ first
  first_least =
      let e : 2 ^ high * 2 ^ width ≡ 2 ^ (width + high) = mul_comm (2 ^ high) (2 ^ width) ∙ sym (pow-add 2 width high) in
      le-div (2 ^ high) upper (2 ^ width) (pow_pos width) (rw e upper_least)

  first_most : first < 2 ^ suc high
  first_most =
      let e : width + suc high ≡ suc (width + high) = omega arith in
      let f : 2 ^ suc high * 2 ^ width ≡ 2 ^ suc (width + high) = mul_comm (2 ^ suc high) (2 ^ width) ∙ sym (pow-add 2 width (suc high)) ∙ ap (λ (m : ℕ). 2 ^ m) e in
      div_below upper (2 ^ width) (2 ^ suc high) (pow_pos width) (rw f upper_most)

  told_below : told < 2 ^ high
  told_below = let a = first_least in let b = first_most in let c = pow-suc 2 high in omega (arith, a, b, c)

  lower_below : lower < 2 ^ low
  lower_below = mod_below token (2 ^ low) (pow_pos low)

  pub told_bits : told * 2 ^ low + lower < 2 ^ (high + low)
  told_bits = rw (pow-add 2 high low, mul_comm (2 ^ high) (2 ^ low)) (mul-add-lt told (2 ^ low) lower (2 ^ high) told_below lower_below)

  -- the symbol begins at the split
  pub from_split : symbol ≡ 2 ^ split + ((n - split) * 2 ^ (high + low) + (told * 2 ^ low + lower))
  from_split =
      let e : split - (high + low) + (high + low) ≡ split = omega arith in
      let p : 2 ^ split ≡ 2 ^ (split - (high + low)) * 2 ^ (high + low) = ap (λ (m : ℕ). 2 ^ m) (sym e) ∙ pow-add 2 (split - (high + low)) (high + low) in
      let k : 2 ^ (high + low) ≡ 2 ^ high * 2 ^ low = pow-add 2 high low in
      let a : (steps_up * 2 ^ high + told) * 2 ^ low ≡ steps_up * 2 ^ high * 2 ^ low + told * 2 ^ low = add-mul (steps_up * 2 ^ high) told (2 ^ low) in
      let b : steps_up * 2 ^ high * 2 ^ low ≡ steps_up * 2 ^ (high + low) = mul_assoc steps_up (2 ^ high) (2 ^ low) ∙ ap (λ (m : ℕ). steps_up * m) (sym k) in
      let c : steps_up * 2 ^ (high + low) ≡ 2 ^ (split - (high + low)) * 2 ^ (high + low) + (n - split) * 2 ^ (high + low) = add-mul (2 ^ (split - (high + low))) (n - split) (2 ^ (high + low)) in
      omega (arith, p, a, b, c)

  beyond : 2 ^ split ≤ symbol
  beyond = omega (arith, from_split)

  steps_are : (symbol - 2 ^ split) / 2 ^ (high + low) ≡ n - split
  steps_are =
      let e : symbol - 2 ^ split ≡ (n - split) * 2 ^ (high + low) + (told * 2 ^ low + lower) = omega (arith, from_split) in
      ap (λ (m : ℕ). m / 2 ^ (high + low)) e ∙ div-mul-add (n - split) (2 ^ (high + low)) (told * 2 ^ low + lower) told_bits

  pub width_is : (split - (high + low) + (symbol - 2 ^ split) / 2 ^ (high + low)) % 32 ≡ width
  width_is = ap (λ (m : ℕ). (split - (high + low) + m) % 32) steps_are ∙ small (split - (high + low) + (n - split)) (omega arith)
    where
      small : (m : ℕ) → m ≡ width → m % 32 ≡ width
      small m e = omega (arith, e, few)

  symbol_upper : symbol / 2 ^ low % 2 ^ high ≡ told
  symbol_upper = ap (λ (m : ℕ). m % 2 ^ high) (div-mul-add (steps_up * 2 ^ high + told) (2 ^ low) lower lower_below) ∙ mod-mul-add steps_up (2 ^ high) told told_below

  symbol_lower : symbol % 2 ^ low ≡ lower
  symbol_lower = mod-mul-add (steps_up * 2 ^ high + told) (2 ^ low) lower lower_below

  together : ((2 ^ high + told) * 2 ^ width + rest) * 2 ^ low + lower ≡ token
  together =
      let a : 2 ^ high + told ≡ first = omega (arith, first_least) in
      ap (λ (m : ℕ). (m * 2 ^ width + rest) * 2 ^ low + lower) a ∙ ap (λ (m : ℕ). m * 2 ^ low + lower) (div-add-mod' upper (2 ^ width)) ∙ div-add-mod' token (2 ^ low)

  small_token : token < 2 ^ 32
  small_token = below32 (pow-le-pow_right {n = 2} (omega arith) few)
    where
      below32 : 2 ^ suc n ≤ 2 ^ 32 → token < 2 ^ 32
      below32 le = omega (arith, most, le)

  rest_below : rest < 2 ^ width
  rest_below = mod_below upper (2 ^ width) (pow_pos width)

module _ (h : IntegerConfig) (valid : IsConfig h) (token : ℕ) (beyond_split : 2 ^ h.split_exponent ≤ token) (fits : token < 2 ^ 32) where
  abbrev Spelled : Type 0
  Spelled = (symbol : ℕ) × ((rest : ℕ) × Spells h symbol rest token)

  -- by the bits of the token
  pub spelled_by : (n : ℕ) (few : n < 32) (least : 2 ^ n ≤ token) (most : token < 2 ^ suc n) (long : h.split_exponent ≤ n) →
      Spells h (symbol h.split_exponent h.msb_in_token h.lsb_in_token n token valid.1 long few least most) (rest h.split_exponent h.msb_in_token h.lsb_in_token n token valid.1 long few least most) token
  spelled_by n few least most long =
      let s : ℕ = symbol h.split_exponent h.msb_in_token h.lsb_in_token n token valid.1 long few least most in
      let r : ℕ = rest h.split_exponent h.msb_in_token h.lsb_in_token n token valid.1 long few least most in
      let w : width_of h s ≡ width h.split_exponent h.msb_in_token h.lsb_in_token n token valid.1 long few least most = width_is h.split_exponent h.msb_in_token h.lsb_in_token n token valid.1 long few least most in
      let up = symbol_upper h.split_exponent h.msb_in_token h.lsb_in_token n token valid.1 long few least most in
      let down = symbol_lower h.split_exponent h.msb_in_token h.lsb_in_token n token valid.1 long few least most in
      let steps = steps_are h.split_exponent h.msb_in_token h.lsb_in_token n token valid.1 long few least most in
      record {
        beyond = beyond h.split_exponent h.msb_in_token h.lsb_in_token n token valid.1 long few least most;
        fits = rw steps (omega arith);
        within = rw w (rest_below h.split_exponent h.msb_in_token h.lsb_in_token n token valid.1 long few least most);
        whole = rw (w, up, down, together h.split_exponent h.msb_in_token h.lsb_in_token n token valid.1 long few least most) (mod-eq_of_lt fits);
      }

  spelled : (n : ℕ) → n < 32 → 2 ^ n ≤ token → token < 2 ^ suc n → h.split_exponent ≤ n → Spelled
  spelled n few least most long = (
    symbol h.split_exponent h.msb_in_token h.lsb_in_token n token valid.1 long few least most,
    (rest h.split_exponent h.msb_in_token h.lsb_in_token n token valid.1 long few least most, spelled_by n few least most long),
  )

  pub not_longer : (n : ℕ) → token < 2 ^ suc n → h.split_exponent ≤ n
  not_longer n most =
      elim (cases_lt n h.split_exponent) [
        | inl lt ↦ let up : 2 ^ suc n ≤ 2 ^ h.split_exponent = pow-le-pow_right {n = 2} (omega arith) lt in absurd (omega (arith, up, most, beyond_split))
        | inr le ↦ le
      ]

  pub some_spelling : Spelled
  some_spelling =
      let some : 0 < token = let p = pow_pos h.split_exponent in omega (arith, p, beyond_split) in
      let t = leading_top 32 token some fits in
      let j = t.0 in
      let all : count_leading_zeros 32 token + suc j ≡ 32 = t.1 in
      spelled j (omega arith) t.2 t.3 (not_longer j t.3)
