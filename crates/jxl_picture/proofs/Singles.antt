-- A float is, as one of 32 bits, the same float.
use Rattle.std.proofs.Common.{◌≡◌, ◌≢◌, ◌<◌, ◌≤◌, ℕ, suc, ◌+◌, ◌-◌, ◌*◌, ◌/◌, ◌%◌, ◌^◌, Bool, true, false, refl, sym, ap, ◌∙◌, subst, inl, inr, arith}
use Rattle.std.specs.Prelude.{◌==◌, ◌&&◌, ◌||◌, not, nat_le, if◌then◌else◌}
use Rattle.std.proofs.lemmas.Bool.{leb-true, and_parts, eqb-true, eqb-false, eq-eqb, ne_eqb, or_cases, or_parts, cases_lt, not-true, not-false}
use Rattle.std.proofs.lemmas.Nat.{leading_top, pow-add, pow_pos, shl_below, mod_below, one_shl}
use Rattle.std.proofs.Math.Nat.{add-mul, zero-mul, mul_assoc, mul_comm, pow-suc, pow-le-pow_right, mul-le-mul_right}
use lib.Count.{count_leading_zeros}
use Rattle.jxl_image_header.specs.Channels.{fits_float}
use Rattle.jxl_image_header.specs.declared.channel.BitDepth.{BitDepth}
use Rattle.jxl_picture.specs.Floats.{AreExact, Float, IsSame, bias, denominator, float_of, is_finite, magnitude, mantissa_bits, numerator, single, single_bits, subnormal_magnitude, wide_magnitude}

-- how many bits a float and its exponent have
pub record Fits (bits exp : ℕ) : Type 0 where
  pub some : 2 ≤ exp
  pub few : exp ≤ 8
  pub low : exp + 3 ≤ bits
  pub high : bits ≤ exp + 24

pub fits : (bits exp : ℕ) → fits_float bits exp ≡ true → Fits bits exp
fits bits exp e =
    let three = and_parts (nat_le 2 exp && nat_le exp 8 && nat_le (exp + 3) bits) (nat_le bits (exp + 24)) e in
    let two = and_parts (nat_le 2 exp && nat_le exp 8) (nat_le (exp + 3) bits) three.0 in
    let one = and_parts (nat_le 2 exp) (nat_le exp 8) two.0 in
    record { some = leb-true 2 exp one.0; few = leb-true exp 8 one.1; low = leb-true (exp + 3) bits two.1; high = leb-true bits (exp + 24) three.1 }

-- the bias, and the largest exponent
pub bias_most : (exp : ℕ) → exp ≤ 8 → bias exp ≤ 127
bias_most exp few =
    let up : exp - 1 ≤ 7 = omega (arith, few) in
    let p : 2 ^ (exp - 1) ≤ 2 ^ 7 = pow-le-pow_right {n = 2} (omega arith) up in
    omega (arith, p)

pub bias_less : (exp : ℕ) → exp < 8 → bias exp ≤ 63
bias_less exp few =
    let up : exp - 1 ≤ 6 = omega (arith, few) in
    let p : 2 ^ (exp - 1) ≤ 2 ^ 6 = pow-le-pow_right {n = 2} (omega arith) up in
    omega (arith, p)

pub largest : (exp : ℕ) → 1 ≤ exp → 2 ^ exp ≡ 2 * bias exp + 2
largest exp some =
    let s : exp ≡ suc (exp - 1) = omega (arith, some) in
    let p : 2 ^ exp ≡ 2 ^ (exp - 1) * 2 = ap (λ (n : ℕ). 2 ^ n) s ∙ pow-suc 2 (exp - 1) in
    let q = pow_pos (exp - 1) in
    omega (arith, p, q)

-- the exponent of a normal float, with the bias of 8 bits
pub normal_exponent : (exp e : ℕ) → 2 ≤ exp → exp ≤ 8 → e < 2 ^ exp → e ≢ 2 ^ exp - 1 → e + (127 - bias exp) < 255
normal_exponent exp e some few less other =
    let l = largest exp (omega (arith, some)) in
    let m = bias_most exp few in
    omega (arith, l, m, less, other)

-- where the one of a mantissa is moved before its 23 bits
pub record Moved (m : ℕ) : Type 0 where
  pub shift : ℕ
  pub is : count_leading_zeros 32 m - 8 ≡ shift
  pub eight : 8 ≤ count_leading_zeros 32 m
  pub some : 1 ≤ shift
  pub few : shift ≤ 23
  pub low : 2 ^ 23 ≤ m * 2 ^ shift
  pub high : m * 2 ^ shift < 2 ^ 24

pub moved : (m : ℕ) → 0 < m → m < 2 ^ 23 → Moved m
moved m some small =
    let t = leading_top 32 m some (omega (arith, small)) in
    let j : ℕ = t.0 in
    let all : count_leading_zeros 32 m + suc j ≡ 32 = t.1 in
    let least : 2 ^ j ≤ m = t.2 in
    let most : m < 2 ^ suc j = t.3 in
    let few : j < 23 = below j least in
    let sum : j + (23 - j) ≡ 23 = omega (arith, few) in
    let more : suc j + (23 - j) ≡ 24 = omega (arith, few) in
    let up : 2 ^ j * 2 ^ (23 - j) ≡ 2 ^ 23 = sym (pow-add 2 j (23 - j)) ∙ ap (λ (n : ℕ). 2 ^ n) sum in
    let low : 2 ^ j * 2 ^ (23 - j) ≤ m * 2 ^ (23 - j) = mul-le-mul_right {m = 2 ^ j} {n = m} (2 ^ (23 - j)) least in
    let high : m * 2 ^ (23 - j) < 2 ^ (suc j + (23 - j)) = shl_below m (suc j) (23 - j) most in
    let same : 2 ^ (suc j + (23 - j)) ≡ 2 ^ 24 = ap (λ (n : ℕ). 2 ^ n) more in
    record {
      shift = 23 - j;
      is = omega (arith, all);
      eight = omega (arith, all, few);
      some = omega (arith, few);
      few = omega arith;
      low = omega (arith, up, low);
      high = omega (arith, high, same);
    }
  where
    below : (j : ℕ) → 2 ^ j ≤ m → j < 23
    below j le = elim (cases_lt j 23) [ inl lt ↦ lt | inr ge ↦ let up : 2 ^ 23 ≤ 2 ^ j = pow-le-pow_right {n = 2} (omega arith) ge in absurd (omega (arith, up, le, small)) ]

-- powers of two, one after another
pub two_powers : (x a b : ℕ) → x * 2 ^ a * 2 ^ b ≡ x * 2 ^ (a + b)
two_powers x a b = mul_assoc x (2 ^ a) (2 ^ b) ∙ ap (λ (p : ℕ). x * p) (sym (pow-add 2 a b))

three_powers : (x a b c : ℕ) → x * 2 ^ a * 2 ^ b * 2 ^ c ≡ x * 2 ^ (a + b + c)
three_powers x a b c = ap (λ (p : ℕ). p * 2 ^ c) (two_powers x a b) ∙ two_powers x (a + b) c

-- three factors in another order
turned : (a b c : ℕ) → a * b * c ≡ a * c * b
turned a b c = mul_assoc a b c ∙ ap (λ (p : ℕ). a * p) (mul_comm b c) ∙ sym (mul_assoc a c b)

-- the amount of a finite float with a mantissa of 23 bits, as a part of its format's least one
abbrev pub amount : ℕ → ℕ → ℕ
amount e m = if e == 0 then m * 2 else (2 ^ 23 + m) * 2 ^ e

pub amount_zero : (e m : ℕ) → e ≡ 0 → amount e m ≡ m * 2
amount_zero e m z = ap (λ (b : Bool). if b then m * 2 else (2 ^ 23 + m) * 2 ^ e) (eq-eqb e 0 z)

pub amount_normal : (e m : ℕ) → e ≢ 0 → amount e m ≡ (2 ^ 23 + m) * 2 ^ e
amount_normal e m z = ap (λ (b : Bool). if b then m * 2 else (2 ^ 23 + m) * 2 ^ e) (ne_eqb e 0 z)

-- A magnitude of 31 bits that is the float with this exponent of `exp` bits, and this mantissa of 23.
pub record IsWide (exp e m bits : ℕ) : Type 0 where
  pub exponent : ℕ
  pub mantissa : ℕ
  pub is : bits ≡ magnitude exponent mantissa
  pub below : exponent < 256
  pub small : mantissa < 2 ^ 23
  pub infinite : e ≡ 2 ^ exp - 1 → (exponent ≡ 255) × (mantissa ≡ m)
  pub finite : e ≢ 2 ^ exp - 1 → (exponent < 255) × (amount exponent mantissa * 2 ^ bias exp ≡ amount e m * 2 ^ 127)

module _ (exp e m : ℕ) (some : 2 ≤ exp) (few : exp ≤ 8) (less : e < 2 ^ exp) (small : m < 2 ^ 23) where
  infinite : e ≡ 2 ^ exp - 1 → IsWide exp e m (magnitude 255 m)
  infinite top = record { exponent = 255; mantissa = m; is = refl; below = omega arith; small = small; infinite = λ t. (refl, refl); finite = λ other. absurd (other top) }

  normal : e ≢ 2 ^ exp - 1 → e ≢ 0 → IsWide exp e m (magnitude (e + (127 - bias exp)) m)
  normal other positive =
      let up = normal_exponent exp e some few less other in
      let low = bias_most exp few in
      let sum : (e + (127 - bias exp)) + bias exp ≡ e + 127 = omega (arith, low) in
      let wide : amount (e + (127 - bias exp)) m ≡ (2 ^ 23 + m) * 2 ^ (e + (127 - bias exp)) = amount_normal (e + (127 - bias exp)) m (λ z. positive (omega (arith, z))) in
      record {
        exponent = e + (127 - bias exp);
        mantissa = m;
        is = refl;
        below = omega (arith, up);
        small = small;
        infinite = λ t. absurd (other t);
        finite = λ o. (
          up,
          ap (λ (p : ℕ). p * 2 ^ bias exp) wide ∙ two_powers (2 ^ 23 + m) (e + (127 - bias exp)) (bias exp) ∙ ap (λ (n : ℕ). (2 ^ 23 + m) * 2 ^ n) sum
              ∙ sym (two_powers (2 ^ 23 + m) e 127) ∙ ap (λ (p : ℕ). p * 2 ^ 127) (sym (amount_normal e m positive)),
        );
      }

  same_exponent : e ≢ 2 ^ exp - 1 → e ≡ 0 → exp ≡ 8 → IsWide exp e m (magnitude 0 m)
  same_exponent other zero eight = record {
    exponent = 0;
    mantissa = m;
    is = refl;
    below = omega arith;
    small = small;
    infinite = λ t. absurd (other t);
    finite = λ o. (omega arith, ap (λ (n : ℕ). m * 2 * 2 ^ bias n) eight ∙ ap (λ (p : ℕ). p * 2 ^ 127) (sym (amount_zero e m zero)));
  }

  nothing : e ≢ 2 ^ exp - 1 → e ≡ 0 → m ≡ 0 → IsWide exp e m (magnitude 0 m)
  nothing other zero none = record {
    exponent = 0;
    mantissa = m;
    is = refl;
    below = omega arith;
    small = small;
    infinite = λ t. absurd (other t);
    finite = λ o. (omega arith, ap (λ (n : ℕ). n * 2 * 2 ^ bias exp) none ∙ zero-mul (2 ^ bias exp) ∙ sym (zero-mul (2 ^ 127)) ∙ sym (ap (λ (p : ℕ). p * 2 ^ 127) (amount_zero e m zero ∙ ap (λ (n : ℕ). n * 2) none)));
  }

  subnormal : e ≢ 2 ^ exp - 1 → e ≡ 0 → exp < 8 → 0 < m → IsWide exp e m (subnormal_magnitude exp m)
  subnormal other zero short positive =
      let to = moved m positive small in
      let z = to.shift in
      let low = bias_less exp short in
      let x = 128 - bias exp - z in
      let x_some : 1 ≤ x = let f = to.few in omega (arith, low, f) in
      let x_below : x < 255 = omega arith in
      let whole : 2 ^ 23 + (m * 2 ^ z - 2 ^ 23) ≡ m * 2 ^ z = let l = to.low in omega (arith, l) in
      let wide : amount x (m * 2 ^ z - 2 ^ 23) ≡ m * 2 ^ z * 2 ^ x = amount_normal x (m * 2 ^ z - 2 ^ 23) (λ n. let bad : ⊥ = omega (arith, n, x_some) in bad) ∙ ap (λ (p : ℕ). p * 2 ^ x) whole in
      let sum : z + x + bias exp ≡ 1 + 127 = let f = to.few in omega (arith, low, f) in
      let narrow : amount e m * 2 ^ 127 ≡ m * 2 ^ (1 + 127) = ap (λ (p : ℕ). p * 2 ^ 127) (amount_zero e m zero) ∙ two_powers m 1 127 in
      record {
        exponent = x;
        mantissa = m * 2 ^ z - 2 ^ 23;
        is = ap (λ (s : ℕ). magnitude (128 - bias exp - s) (m * 2 ^ s - 2 ^ 23)) to.is;
        below = omega (arith, x_below);
        small = let l = to.low in let h = to.high in omega (arith, l, h);
        infinite = λ t. absurd (other t);
        finite = λ o. (x_below, ap (λ (p : ℕ). p * 2 ^ bias exp) wide ∙ three_powers m z x (bias exp) ∙ ap (λ (n : ℕ). m * 2 ^ n) sum ∙ sym narrow);
      }

  pub wide : IsWide exp e m (wide_magnitude exp e m)
  wide = by (e == 2 ^ exp - 1) (e == 0) ((exp == 8) || (m == 0)) refl refl refl where
    by : (top none kept : Bool) → (e == 2 ^ exp - 1) ≡ top → (e == 0) ≡ none → ((exp == 8) || (m == 0)) ≡ kept →
        IsWide exp e m (if top then magnitude 255 m else if not none then magnitude (e + (127 - bias exp)) m else if kept then magnitude 0 m else subnormal_magnitude exp m)
    by true none kept t n k = infinite (eqb-true e (2 ^ exp - 1) t)
    by false false kept t n k = normal (eqb-false e (2 ^ exp - 1) t) (eqb-false e 0 n)
    by false true true t n k = elim (or_cases (exp == 8) (m == 0) k) [
      | inl eight ↦ same_exponent (eqb-false e (2 ^ exp - 1) t) (eqb-true e 0 n) (eqb-true exp 8 eight)
      | inr none ↦ nothing (eqb-false e (2 ^ exp - 1) t) (eqb-true e 0 n) (eqb-true m 0 none)
    ]
    by false true false t n k =
        let parts = or_parts (exp == 8) (m == 0) k in
        let other = eqb-false exp 8 parts.0 in
        let positive = eqb-false m 0 parts.1 in
        subnormal (eqb-false e (2 ^ exp - 1) t) (eqb-true e 0 n) (omega (arith, few, other)) (omega (arith, positive))

-- The parts of a number that was put together of them.
record HasParts (n : ℕ) (s : Bool) (e m : ℕ) : Type 0 where
  sign : not (n / 2 ^ 31 == 0) ≡ s
  exponent : n / 2 ^ 23 % 2 ^ 8 ≡ e
  mantissa : n % 2 ^ 23 ≡ m

has_parts : (s : Bool) (e m : ℕ) → e < 256 → m < 2 ^ 23 → HasParts ((if s then 2 ^ 31 else 0) + magnitude e m) s e m
has_parts true e m le lm =
    let q : (2 ^ 31 + (e * 2 ^ 23 + m)) / 2 ^ 31 ≡ 1 = omega (arith, le, lm) in
    record { sign = ap (λ (n : ℕ). not (n == 0)) q; exponent = omega (arith, le, lm); mantissa = omega (arith, le, lm) }
has_parts false e m le lm =
    let q : (0 + (e * 2 ^ 23 + m)) / 2 ^ 31 ≡ 0 = omega (arith, le, lm) in
    record { sign = ap (λ (n : ℕ). not (n == 0)) q; exponent = omega (arith, le, lm); mantissa = omega (arith, le, lm) }

module _ (d : BitDepth) (n : ℕ) (fit : fits_float d.bits_per_sample d.exp_bits ≡ true) where
  abbrev places : ℕ
  places = mantissa_bits d

  abbrev rest : ℕ
  rest = 23 - places

  abbrev f : Float
  f = float_of d n

  is_fit : Fits d.bits_per_sample d.exp_bits
  is_fit = fits d.bits_per_sample d.exp_bits fit

  few_places : places ≤ 23
  few_places = let l = is_fit.low in let h = is_fit.high in omega (arith, l, h)

  abbrev m : ℕ
  m = f.mantissa * 2 ^ rest

  small : m < 2 ^ 23
  small =
      let p = shl_below f.mantissa places rest (mod_below n (2 ^ places) (pow_pos places)) in
      let all : places + rest ≡ 23 = omega (arith, few_places) in
      let s : 2 ^ (places + rest) ≡ 2 ^ 23 = ap (λ (k : ℕ). 2 ^ k) all in
      omega (arith, p, s)

  is : IsWide d.exp_bits f.exponent m (wide_magnitude d.exp_bits f.exponent m)
  is = wide d.exp_bits f.exponent m is_fit.some is_fit.few (mod_below (n / 2 ^ places) (2 ^ d.exp_bits) (pow_pos d.exp_bits)) small

  parts : HasParts (single_bits d n) f.negative is.exponent is.mantissa
  parts = subst (λ (k : ℕ). HasParts ((if f.negative then 2 ^ 31 else 0) + k) f.negative is.exponent is.mantissa) (sym is.is) (has_parts f.negative is.exponent is.mantissa is.below is.small)

  -- the amount with a mantissa of 23 bits
  longer : amount f.exponent m ≡ numerator d f * 2 ^ rest
  longer = by (f.exponent == 0) where
    by : (zero : Bool) → (if zero then m * 2 else (2 ^ 23 + m) * 2 ^ f.exponent) ≡ (if zero then f.mantissa * 2 else (2 ^ places + f.mantissa) * 2 ^ f.exponent) * 2 ^ rest
    by true = turned f.mantissa (2 ^ rest) 2
    by false =
        let all : 23 ≡ places + rest = omega (arith, few_places) in
        let s : 2 ^ 23 ≡ 2 ^ places * 2 ^ rest = ap (λ (k : ℕ). 2 ^ k) all ∙ pow-add 2 places rest in
        let t : 2 ^ 23 + m ≡ (2 ^ places + f.mantissa) * 2 ^ rest = ap (λ (k : ℕ). k + m) s ∙ sym (add-mul (2 ^ places) f.mantissa (2 ^ rest)) in
        ap (λ (k : ℕ). k * 2 ^ f.exponent) t ∙ turned (2 ^ places + f.mantissa) (2 ^ rest) (2 ^ f.exponent)

  -- the parts as the code computes them
  pub mantissa_is : n % (1 * 2 ^ places % 2 ^ 32) * 2 ^ rest % 2 ^ 32 ≡ m
  mantissa_is =
      let less : places < 32 = omega (arith, few_places) in
      ap (λ (k : ℕ). n % k * 2 ^ rest % 2 ^ 32) (one_shl places 32 less) ∙ omega (arith, small)

  pub magnitude_is : wide_magnitude d.exp_bits (n / 2 ^ places % (1 * 2 ^ d.exp_bits % 2 ^ 32)) (n % (1 * 2 ^ places % 2 ^ 32) * 2 ^ rest % 2 ^ 32) ≡ wide_magnitude d.exp_bits f.exponent m
  magnitude_is =
      let less : d.exp_bits < 32 = let few = is_fit.few in omega (arith, few) in
      ap (λ (k : ℕ). wide_magnitude d.exp_bits (n / 2 ^ places % k) (n % (1 * 2 ^ places % 2 ^ 32) * 2 ^ rest % 2 ^ 32)) (one_shl d.exp_bits 32 less)
      ∙ ap (λ (k : ℕ). wide_magnitude d.exp_bits f.exponent k) mantissa_is

  pub mantissa_small : n % (1 * 2 ^ places % 2 ^ 32) * 2 ^ rest % 2 ^ 32 < 2 ^ 23
  mantissa_small = omega (arith, mantissa_is, small)

  pub positive_is : n / 2 ^ (d.bits_per_sample - 1) ≡ 0 → (k : ℕ) → k ≡ wide_magnitude d.exp_bits f.exponent m → k ≡ single_bits d n
  positive_is zero k e =
      let plain : k ≡ 0 + wide_magnitude d.exp_bits f.exponent m = omega (arith, e) in
      plain ∙ ap (λ (b : Bool). (if not b then 2 ^ 31 else 0) + wide_magnitude d.exp_bits f.exponent m) (sym (eq-eqb (n / 2 ^ (d.bits_per_sample - 1)) 0 zero))

  pub negative_is : n / 2 ^ (d.bits_per_sample - 1) ≢ 0 → (k : ℕ) → k ≡ wide_magnitude d.exp_bits f.exponent m → 2 ^ 31 + k ≡ single_bits d n
  negative_is some k e =
      ap (λ (i : ℕ). 2 ^ 31 + i) e ∙ ap (λ (b : Bool). (if not b then 2 ^ 31 else 0) + wide_magnitude d.exp_bits f.exponent m) (sym (ne_eqb (n / 2 ^ (d.bits_per_sample - 1)) 0 some))

  same : IsSame d f (float_of single (single_bits d n))
  same = record {
    sign = parts.sign;
    finite = finite_by (f.exponent == 2 ^ d.exp_bits - 1) refl;
    amount = λ t. amount_by t;
    other = λ t. other_by t;
  }
    where
      finite_by : (b : Bool) → (f.exponent == 2 ^ d.exp_bits - 1) ≡ b → is_finite single (float_of single (single_bits d n)) ≡ is_finite d f
      finite_by true e = ap (λ (k : ℕ). not (k == 255)) (parts.exponent ∙ (is.infinite (eqb-true f.exponent (2 ^ d.exp_bits - 1) e)).0) ∙ ap not (sym e)
      finite_by false e =
          let l = (is.finite (eqb-false f.exponent (2 ^ d.exp_bits - 1) e)).0 in
          ap not (ap (λ (k : ℕ). k == 255) parts.exponent ∙ ne_eqb is.exponent 255 (λ t. let bad : ⊥ = omega (arith, l, t) in bad)) ∙ ap not (sym e)

      amount_by : is_finite d f ≡ true → numerator single (float_of single (single_bits d n)) * denominator d ≡ numerator d f * denominator single
      amount_by t =
          let e = eqb-false f.exponent (2 ^ d.exp_bits - 1) (not-true (f.exponent == 2 ^ d.exp_bits - 1) t) in
          let w : numerator single (float_of single (single_bits d n)) ≡ amount is.exponent is.mantissa = ap (λ (k : ℕ). amount k ((single_bits d n) % 2 ^ 23)) parts.exponent ∙ ap (λ (k : ℕ). amount is.exponent k) parts.mantissa in
          let k = (is.finite e).1 in
          let sum : rest + 127 + places ≡ 150 = omega (arith, few_places) in
          ap (λ (a : ℕ). a * 2 ^ (bias d.exp_bits + places)) w ∙ sym (two_powers (amount is.exponent is.mantissa) (bias d.exp_bits) places) ∙ ap (λ (a : ℕ). a * 2 ^ places) k
          ∙ ap (λ (a : ℕ). a * 2 ^ 127 * 2 ^ places) longer ∙ three_powers (numerator d f) rest 127 places ∙ ap (λ (a : ℕ). numerator d f * 2 ^ a) sum

      other_by : is_finite d f ≡ false → (float_of single (single_bits d n)).mantissa ≡ m
      other_by t = parts.mantissa ∙ (is.infinite (eqb-true f.exponent (2 ^ d.exp_bits - 1) (not-false (f.exponent == 2 ^ d.exp_bits - 1) t))).1

pub are_exact : AreExact
are_exact d n fit = same d n fit

signed_by : (n : ℕ) (plus : Bool) → (n / 2 ^ 31 == 0) ≡ plus → (k : ℕ) → n < 2 ^ 32 → k ≡ n % 2 ^ 31 → (if not plus then 2 ^ 31 else 0) + k ≡ n
signed_by n true s k low e = let q = eqb-true (n / 2 ^ 31) 0 s in omega (arith, q, e, low)
signed_by n false s k low e = let q = eqb-false (n / 2 ^ 31) 0 s in omega (arith, q, e, low)

-- floats of 32 bits stay as they are
pub single_is : (n : ℕ) → n < 2 ^ 32 → single_bits single n ≡ n
single_is n low = by (n / 2 ^ 23 % 2 ^ 8 == 255) (n / 2 ^ 23 % 2 ^ 8 == 0) (n / 2 ^ 31 == 0) refl refl refl where
  by : (top none plus : Bool) → (n / 2 ^ 23 % 2 ^ 8 == 255) ≡ top → (n / 2 ^ 23 % 2 ^ 8 == 0) ≡ none → (n / 2 ^ 31 == 0) ≡ plus →
      (if not plus then 2 ^ 31 else 0) + (if top then magnitude 255 (n % 2 ^ 23 * 1) else if not none then magnitude (n / 2 ^ 23 % 2 ^ 8 + 0) (n % 2 ^ 23 * 1) else magnitude 0 (n % 2 ^ 23 * 1)) ≡ n
  by true none plus t z s = let e = eqb-true (n / 2 ^ 23 % 2 ^ 8) 255 t in signed_by n plus s (magnitude 255 (n % 2 ^ 23 * 1)) low (omega (arith, e, low))
  by false false plus t z s = signed_by n plus s (magnitude (n / 2 ^ 23 % 2 ^ 8 + 0) (n % 2 ^ 23 * 1)) low (omega (arith, low))
  by false true plus t z s = let e = eqb-true (n / 2 ^ 23 % 2 ^ 8) 0 z in signed_by n plus s (magnitude 0 (n % 2 ^ 23 * 1)) low (omega (arith, e, low))

depth_by : ℕ → ℕ → BitDepth
depth_by bits exp = record { bits_per_sample = bits; exp_bits = exp }

-- 32 bits are those of one depth
pub single_depth : (d : BitDepth) → fits_float d.bits_per_sample d.exp_bits ≡ true → d.bits_per_sample ≡ 32 → d ≡ single
unfolding depth_by
single_depth d fit all =
    let is = fits d.bits_per_sample d.exp_bits fit in
    let few = is.few in
    let high = is.high in
    let eight : d.exp_bits ≡ 8 = omega (arith, all, few, high) in
    ap (λ (b : ℕ). depth_by b d.exp_bits) all ∙ ap (depth_by 32) eight

pub single_kept : (d : BitDepth) (n : ℕ) → fits_float d.bits_per_sample d.exp_bits ≡ true → d.bits_per_sample ≡ 32 → n < 2 ^ 32 → n ≡ single_bits d n
single_kept d n fit all low = sym (single_is n low) ∙ ap (λ (k : BitDepth). single_bits k n) (sym (single_depth d fit all))
