-- A token has one spelling.
use Rattle.std.specs.Prelude.{◌≡◌, ℕ, suc, ◌+◌, ◌-◌, ◌*◌, ◌/◌, ◌%◌, ◌^◌, ◌<◌, ◌≤◌, ◌⊎◌, Bool, true, false, nat_lt}
use Rattle.std.proofs.Common.{refl, sym, ap, subst, ◌∙◌, inl, inr, arith, zero-add}
use Rattle.std.proofs.Math.Nat.{add_comm, mul_assoc, mul_comm, suc-mul, pow-suc, mul-le-mul_right, mul-le-mul_left, pow-le-pow_right, le_trans, lt_of_lt_of_le, add-mul-div_right, add-mul-mod_self_right, div-eq_of_lt, mod-eq_of_lt}
use Rattle.std.proofs.lemmas.Nat.{pow-add, mod-pow-add, pow_pos}
use Rattle.std.proofs.lemmas.Bool.Decides.{nat_tests}
use Rattle.jxl_coding_codes.specs.IntegerConfigs.{IsConfig, width_of}
use Rattle.jxl_coding_codes.specs.Spellings.{Spells}
use Rattle.jxl_coding_codes.specs.declared.config.IntegerConfig.{IntegerConfig}

-- Numbers.

above_zero : (n m : ℕ) → n < m → 0 < m
above_zero n m lt = omega arith

cancelled : (c a b : ℕ) → c + a ≡ c + b → a ≡ b
cancelled c a b e = omega arith

division : (n m : ℕ) → 0 < m → m * (n / m) + n % m ≡ n
division n m some = omega arith

remainder_below : (n m : ℕ) → 0 < m → n % m < m
remainder_below n m some = omega arith

quotient : (b m r : ℕ) → r < m → (b * m + r) / m ≡ b
quotient b m r lt = rw (add_comm (b * m) r, add-mul-div_right r b {z = m} (above_zero r m lt), div-eq_of_lt lt) (zero-add b)

remainder : (b m r : ℕ) → r < m → (b * m + r) % m ≡ r
remainder b m r lt = rw (add_comm (b * m) r, add-mul-mod_self_right r b m) (mod-eq_of_lt lt)

-- a number has one quotient and one remainder
record Same (b c r s : ℕ) : Type 0 where
  quotients : b ≡ c
  remainders : r ≡ s

apart : (m b c r s : ℕ) → r < m → s < m → b * m + r ≡ c * m + s → Same b c r s
apart m b c r s lt less e = record {
  quotients = sym (quotient b m r lt) ∙ ap (λ (n : ℕ). n / m) e ∙ quotient c m s less;
  remainders = sym (remainder b m r lt) ∙ ap (λ (n : ℕ). n % m) e ∙ remainder c m s less;
}

next : (a n : ℕ) → a < n → suc a ≤ n
next a n lt = omega arith

below_next : (x m r y : ℕ) → y ≡ x + m → r < m → x + r < y
below_next x m r y e lt = omega arith

-- a number of this number of parts and a rest
below : (a n m r : ℕ) → a < n → r < m → a * m + r < n * m
below a n m r lt less =
    let up : suc a * m ≤ n * m = mul-le-mul_right m (next a n lt) in
    lt_of_lt_of_le (below_next (a * m) m r (suc a * m) (suc-mul a m) less) up

one_two : 1 < 2
one_two = omega arith

at_least : (x y s : ℕ) → x ≤ y → x ≤ y + s
at_least x y s le = omega arith

-- numbers of fewer bits are smaller
shorter : (one a b m n r s : ℕ) → a < 2 * one → one ≤ b → r < 2 ^ m → m < n → a * 2 ^ m + r < b * 2 ^ n + s
shorter one a b m n r s lt le within less =
    let first : a * 2 ^ m + r < (2 * one) * 2 ^ m = below a (2 * one) (2 ^ m) r lt within in
    let turned : (2 * one) * 2 ^ m ≡ one * 2 ^ suc m = rw (pow-suc 2 m, mul_comm 2 one, mul_assoc one 2 (2 ^ m), mul_comm 2 (2 ^ m)) refl in
    let grown : 2 ^ suc m ≤ 2 ^ n = pow-le-pow_right {n = 2} (above_zero 1 2 (one_two)) (next m n less) in
    let wide : one * 2 ^ suc m ≤ one * 2 ^ n = mul-le-mul_left one grown in
    let last : one * 2 ^ n ≤ b * 2 ^ n = mul-le-mul_right (2 ^ n) le in
    let long : (2 * one) * 2 ^ m ≤ b * 2 ^ n = rw turned (le_trans wide last) in
    lt_of_lt_of_le first (at_least ((2 * one) * 2 ^ m) (b * 2 ^ n) s long)

compared_by : (less : Bool) (a b : ℕ) → nat_lt a b ≡ less → (a < b) ⊎ (b ≤ a)
compared_by true a b e = inl (grind (arith, nat_tests))
compared_by false a b e = inr (grind (arith, nat_tests))

compared : (a b : ℕ) → (a < b) ⊎ (b ≤ a)
compared a b = compared_by (nat_lt a b) a b refl

unequal : (x y : ℕ) → x ≡ y → x < y → (m n : ℕ) → m ≡ n
unequal x y e lt m n = absurd (omega arith)

both_le : (m n : ℕ) → m ≤ n → n ≤ m → m ≡ n
both_le m n a b = omega arith

as_many : (one a b m n r s : ℕ) → a < 2 * one → one ≤ a → b < 2 * one → one ≤ b → r < 2 ^ m → s < 2 ^ n → a * 2 ^ m + r ≡ b * 2 ^ n + s → m ≡ n
as_many one a b m n r s la ga lb gb lr ls e =
    elim (compared m n) [
      | inl less ↦ unequal (a * 2 ^ m + r) (b * 2 ^ n + s) e (shorter one a b m n r s la gb lr less) m n
      | inr ge ↦ elim (compared n m) [
        | inl more ↦ unequal (b * 2 ^ n + s) (a * 2 ^ m + r) (sym e) (shorter one b a n m s r lb ga ls more) m n
        | inr le ↦ both_le m n le ge
      ]
    ]

off_and_on : (n m : ℕ) → m ≤ n → n ≡ n - m + m
off_and_on n m le = omega arith

same_less : (s t m : ℕ) → m ≤ s → m ≤ t → s - m ≡ t - m → s ≡ t
same_less s t m ls lt e = omega arith

-- bits above a leading one
led : (one n : ℕ) → 0 < one → n < one → one + n < 2 * one
led one n some lt = omega arith

leading : (one n : ℕ) → one ≤ one + n
leading one n = omega arith

-- a symbol that is no token, by the bits that it tells and what is above them
module _ (split high low : ℕ) (tells : high + low ≤ split) where
  abbrev known : ℕ
  known = 2 ^ (high + low)

  abbrev above : ℕ → ℕ
  above symbol = (symbol - 2 ^ split) / known

  abbrev upper : ℕ → ℕ
  upper symbol = symbol / 2 ^ low % 2 ^ high

  abbrev lower : ℕ → ℕ
  lower symbol = symbol % 2 ^ low

  -- the split is a multiple of what is coded
  split_parts : 2 ^ split ≡ 2 ^ (split - (high + low)) * known
  split_parts = subst (λ (n : ℕ). 2 ^ n ≡ 2 ^ (split - (high + low)) * known) (sym (off_and_on split (high + low) tells)) (pow-add 2 (split - (high + low)) (high + low))

  -- so the bits that a symbol tells are those of what is beyond the split
  same_bits : (symbol : ℕ) → 2 ^ split ≤ symbol → (symbol - 2 ^ split) % known ≡ symbol % known
  same_bits symbol le =
      let back : symbol ≡ symbol - 2 ^ split + 2 ^ (split - (high + low)) * known = off_and_on symbol (2 ^ split) le ∙ ap (λ (n : ℕ). symbol - 2 ^ split + n) split_parts in
      sym (ap (λ (n : ℕ). n % known) back ∙ add-mul-mod_self_right (symbol - 2 ^ split) (2 ^ (split - (high + low))) known)

  told_bits : (s t : ℕ) → upper s ≡ upper t → lower s ≡ lower t → s % known ≡ t % known
  told_bits s t up down = mod-pow-add s high low ∙ ap (λ (n : ℕ). n * 2 ^ low + lower s) up ∙ ap (λ (n : ℕ). upper t * 2 ^ low + n) down ∙ sym (mod-pow-add t high low)

  symbol_is : (s t : ℕ) → 2 ^ split ≤ s → 2 ^ split ≤ t → above s ≡ above t → upper s ≡ upper t → lower s ≡ lower t → s ≡ t
  symbol_is s t ls lt same up down =
      let some : 0 < known = pow_pos (high + low) in
      let rests : (s - 2 ^ split) % known ≡ (t - 2 ^ split) % known = same_bits s ls ∙ told_bits s t up down ∙ sym (same_bits t lt) in
      let a : known * above s + (s - 2 ^ split) % known ≡ s - 2 ^ split = division (s - 2 ^ split) known some in
      let b : known * above t + (t - 2 ^ split) % known ≡ t - 2 ^ split = division (t - 2 ^ split) known some in
      let both : known * above s + (s - 2 ^ split) % known ≡ known * above t + (t - 2 ^ split) % known = ap (λ (n : ℕ). known * n + (s - 2 ^ split) % known) same ∙ ap (λ (n : ℕ). known * above t + n) rests in
      same_less s t (2 ^ split) ls lt (sym a ∙ both ∙ b)

  -- the token, where nothing is reduced
  abbrev token : ℕ → ℕ → ℕ → ℕ
  token symbol n rest = ((2 ^ high + upper symbol) * 2 ^ n + rest) * 2 ^ low + lower symbol

  one_token : (s t m n r q : ℕ) → 2 ^ split ≤ s → 2 ^ split ≤ t → r < 2 ^ m → q < 2 ^ n → (m ≡ n → above s ≡ above t) → token s m r ≡ token t n q → Same s t r q
  one_token s t m n r q ls lt lr lq same e =
      let some : 0 < 2 ^ low = pow_pos low in
      let part : 0 < 2 ^ high = pow_pos high in
      let us : upper s < 2 ^ high = remainder_below (s / 2 ^ low) (2 ^ high) part in
      let ut : upper t < 2 ^ high = remainder_below (t / 2 ^ low) (2 ^ high) part in
      let outer = apart (2 ^ low) ((2 ^ high + upper s) * 2 ^ m + r) ((2 ^ high + upper t) * 2 ^ n + q) (lower s) (lower t) (remainder_below s (2 ^ low) some) (remainder_below t (2 ^ low) some) e in
      let level : m ≡ n = as_many (2 ^ high) (2 ^ high + upper s) (2 ^ high + upper t) m n r q (led (2 ^ high) (upper s) part us) (leading (2 ^ high) (upper s)) (led (2 ^ high) (upper t) part ut) (leading (2 ^ high) (upper t)) lr lq outer.quotients in
      let narrow : r < 2 ^ n = subst (λ (k : ℕ). r < 2 ^ k) level lr in
      let inner = apart (2 ^ n) (2 ^ high + upper s) (2 ^ high + upper t) r q narrow lq (subst (λ (k : ℕ). (2 ^ high + upper s) * 2 ^ k + r ≡ (2 ^ high + upper t) * 2 ^ n + q) level outer.quotients) in
      let up : upper s ≡ upper t = cancelled (2 ^ high) (upper s) (upper t) inner.quotients in
      record { quotients = symbol_is s t ls lt (same level) up outer.remainders; remainders = inner.remainders }

  -- a token of few bits is not reduced
  token_small : (s n r : ℕ) → r < 2 ^ n → suc high + n + low ≤ 32 → token s n r < 2 ^ 32
  token_small s n r lt few =
      let some : 0 < 2 ^ low = pow_pos low in
      let part : 0 < 2 ^ high = pow_pos high in
      let us : upper s < 2 ^ high = remainder_below (s / 2 ^ low) (2 ^ high) part in
      let first : 2 ^ high + upper s < 2 ^ suc high = rw (pow-suc 2 high, mul_comm (2 ^ high) 2) (led (2 ^ high) (upper s) part us) in
      let outer = below (2 ^ high + upper s) (2 ^ suc high) (2 ^ n) r first lt in
      let inner = below ((2 ^ high + upper s) * 2 ^ n + r) (2 ^ suc high * 2 ^ n) (2 ^ low) (lower s) outer (remainder_below s (2 ^ low) some) in
      let all : 2 ^ (suc high + n + low) ≡ 2 ^ suc high * 2 ^ n * 2 ^ low = pow-add 2 (suc high + n) low ∙ ap (λ (k : ℕ). k * 2 ^ low) (pow-add 2 (suc high) n) in
      let most : 2 ^ (suc high + n + low) ≤ 2 ^ 32 = pow-le-pow_right {n = 2} (above_zero 1 2 one_two) few in
      lt_of_lt_of_le inner (rw all at most)

few_more : (split known above : ℕ) → known ≤ split → split + above < 32 → split - known + above < 32
few_more split known above le lt = omega arith

few_bits : (split high low above n : ℕ) → high + low ≤ split → split + above < 32 → n ≡ split - (high + low) + above → suc high + n + low ≤ 32
few_bits split high low above n le lt e = omega arith

same_above : (split known above more m n : ℕ) → m ≡ split - known + above → n ≡ split - known + more → m ≡ n → above ≡ more
same_above split known above more m n a b e = omega arith

module _ (h : IntegerConfig) (valid : IsConfig h) where
  abbrev beyond : ℕ → ℕ
  beyond s = above h.split_exponent h.msb_in_token h.lsb_in_token valid.1 s

  -- the width is not reduced
  width_is : (s r v : ℕ) → Spells h s r v → width_of h s ≡ h.split_exponent - (h.msb_in_token + h.lsb_in_token) + beyond s
  width_is s r v x = mod-eq_of_lt (few_more h.split_exponent (h.msb_in_token + h.lsb_in_token) (beyond s) valid.1 x.fits)

  token_is : (s r v : ℕ) → Spells h s r v → token h.split_exponent h.msb_in_token h.lsb_in_token valid.1 s (width_of h s) r ≡ v
  token_is s r v x =
      let few = few_bits h.split_exponent h.msb_in_token h.lsb_in_token (beyond s) (width_of h s) valid.1 x.fits (width_is s r v x) in
      sym (mod-eq_of_lt (token_small h.split_exponent h.msb_in_token h.lsb_in_token valid.1 s (width_of h s) r x.within few)) ∙ x.whole

  pub one_spelling : (s t r q v : ℕ) → Spells h s r v → Spells h t q v → (s ≡ t) × (r ≡ q)
  one_spelling s t r q v x y =
      let k = one_token h.split_exponent h.msb_in_token h.lsb_in_token valid.1 s t (width_of h s) (width_of h t) r q x.beyond y.beyond x.within y.within
      (same_above h.split_exponent (h.msb_in_token + h.lsb_in_token) (beyond s) (beyond t) (width_of h s) (width_of h t) (width_is s r v x) (width_is t q v y))
      (token_is s r v x ∙ sym (token_is t q v y)) in
      (k.quotients, k.remainders)
