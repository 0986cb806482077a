-- Lists of bits: digits of a number, and where they stand in bytes.
use Rattle.std.proofs.Common.{◌≡◌, inl, inr, subst, ℕ, zero, suc, ◌+◌, ◌-◌, ◌*◌, ◌/◌, ◌%◌, ◌^◌, ◌<◌, List, [], ◌∷◌, ◌++◌, length, get_or, slice_index, replicate, refl, sym, ap, ◌∙◌, arith}
use Rattle.std.proofs.lemmas.List.{length-append, get_or_append_left, get_or-append-add}
use Rattle.std.proofs.lemmas.Nat.{pow_pos, mod-pow-add}
use Rattle.std.proofs.lemmas.Bool.{cases_lt}
use Rattle.std.proofs.Math.Nat.{pow-suc, add-mul-div_right, add-mul-mod_self_right, mul_assoc, mul_comm, zero-add}
use Rattle.jxlm_bits.specs.Bits.{bit_at, bits_at}
use Rattle.jxlm_bit_writer.specs.Written.{digits, bits_of, AreFilled, HasBits}

pub length-digits : (n v : ℕ) → length (digits n v) ≡ n
length-digits zero v = refl
length-digits (suc n) v =
    let one = length-append (digits n v) (v / 2 ^ n % 2 ∷ []) in
    let before = length-digits n v in
    omega (arith, one, before)

twice : (v w a c : ℕ) → c ≡ a * 2 → v + w * c ≡ v + w * 2 * a
twice v w a c e = rw (e, mul_comm a 2, mul_assoc w 2 a) refl

-- the low digits of a number are not changed by what stands above them
pub digits_low : (n v w : ℕ) → digits n (v + w * 2 ^ n) ≡ digits n v
digits_low zero v w = refl
digits_low (suc n) v w =
    let e : v + w * 2 ^ suc n ≡ v + w * 2 * 2 ^ n = twice v w (2 ^ n) (2 ^ suc n) (pow-suc 2 n) in
    let last : (v + w * 2 * 2 ^ n) / 2 ^ n % 2 ≡ v / 2 ^ n % 2 = ap (λ x. x % 2) (add-mul-div_right v (w * 2) (pow_pos n)) ∙ add-mul-mod_self_right (v / 2 ^ n) w 2 in
    ap (λ x. digits (suc n) x) e
    ∙ ap (λ xs. xs ++ (v + w * 2 * 2 ^ n) / 2 ^ n % 2 ∷ []) (digits_low n v (w * 2))
    ∙ ap (λ b. digits n v ++ b ∷ []) last

-- bit i of bytes, among their bits
digit_of : (n v j : ℕ) → j < n → get_or (digits n v) j 0 ≡ v / 2 ^ j % 2
digit_of zero v j h = absurd (omega (arith, h))
digit_of (suc n) v j h = elim (cases_lt j n) [
  | inl below ↦ get_or_append_left (digits n v) (v / 2 ^ n % 2 ∷ []) 0 j (let l = length-digits n v in omega (arith, l, below)) ∙ digit_of n v j below
  | inr above ↦
      let e : j ≡ n = omega (arith, above, h) in
      let l : n ≡ length (digits n v) + 0 = (let m = length-digits n v in omega (arith, m)) in
      ap (λ k. get_or (digits n v ++ v / 2 ^ n % 2 ∷ []) k 0) (e ∙ l) ∙ get_or-append-add (digits n v) (v / 2 ^ n % 2 ∷ []) 0 0 ∙ ap (λ k. v / 2 ^ k % 2) (sym e)
]

-- what stands before and after
pub has_first : (bytes : List ℕ) (p : ℕ) (xs ys : List ℕ) → HasBits bytes p (xs ++ ys) → HasBits bytes p xs
has_first bytes p xs ys h = record {
  inside = let l = length-append xs ys in let i = h.inside in omega (arith, l, i);
  each = λ j below. let l = length-append xs ys in h.each j (omega (arith, l, below)) ∙ get_or_append_left xs ys 0 j below;
}

pub has_rest : (bytes : List ℕ) (p : ℕ) (xs ys : List ℕ) → HasBits bytes p (xs ++ ys) → HasBits bytes (p + length xs) ys
has_rest bytes p xs ys h = record {
  inside = let l = length-append xs ys in let i = h.inside in omega (arith, l, i);
  each = λ j below.
      let l = length-append xs ys in
      let e : p + length xs + j ≡ p + (length xs + j) = omega arith in
      ap (bit_at bytes) e ∙ h.each (length xs + j) (omega (arith, l, below)) ∙ get_or-append-add xs ys j 0;
}

-- n digits of a number stand as this number
pub number_stands : (bytes : List ℕ) (p n v : ℕ) → HasBits bytes p (digits n v) → bits_at bytes p n ≡ v % 2 ^ n
number_stands bytes p zero v h = omega arith
number_stands bytes p (suc n) v h =
    let low : bits_at bytes p n ≡ v % 2 ^ n = number_stands bytes p n v (has_first bytes p (digits n v) (v / 2 ^ n % 2 ∷ []) h) in
    let l = length-digits n v in
    let place : p + n ≡ p + length (digits n v) + 0 = omega (arith, l) in
    let high : bit_at bytes (p + n) ≡ v / 2 ^ n % 2 = ap (bit_at bytes) place ∙ (has_rest bytes p (digits n v) (v / 2 ^ n % 2 ∷ []) h).each 0 (omega arith) in
    let next : 1 + n ≡ suc n = omega arith in
    let more : v % 2 ^ suc n ≡ v / 2 ^ n % 2 ^ 1 * 2 ^ n + v % 2 ^ n = rw (← next) (mod-pow-add v 1 n) in
    rw (low, high, more) (omega arith)

-- how many bits bytes have
pub length-bits : (bytes : List ℕ) → length (bits_of bytes) ≡ 8 * length bytes
length-bits [] = refl
length-bits (b ∷ bytes) =
    let l = length-append (digits 8 b) (bits_of bytes) in
    let d = length-digits 8 b in
    let m = length-bits bytes in
    omega (arith, l, d, m)

-- bit i of bytes is element i of their bits
pub bit_of : (bytes : List ℕ) (i : ℕ) → i < length (bits_of bytes) → bit_at bytes i ≡ get_or (bits_of bytes) i 0
bit_of [] i h = absurd (omega (arith, h))
bit_of (b ∷ bytes) i h = elim (cases_lt i 8) [
  | inl below ↦
      let place : i / 8 ≡ 0 = omega (arith, below) in
      let within : i % 8 ≡ i = omega (arith, below) in
      ap (λ k. slice_index (b ∷ bytes) k / 2 ^ (i % 8) % 2) place
      ∙ ap (λ k. b / 2 ^ k % 2) within
      ∙ sym (get_or_append_left (digits 8 b) (bits_of bytes) 0 i (let d = length-digits 8 b in omega (arith, d, below)) ∙ digit_of 8 b i below)
  | inr above ↦
      let d = length-digits 8 b in
      let l = length-append (digits 8 b) (bits_of bytes) in
      let place : i / 8 ≡ suc ((i - 8) / 8) = omega (arith, above) in
      let within : i % 8 ≡ (i - 8) % 8 = omega (arith, above) in
      let e : length (digits 8 b) + (i - 8) ≡ i = omega (arith, d, above) in
      ap (λ k. slice_index (b ∷ bytes) k / 2 ^ (i % 8) % 2) place
      ∙ ap (λ k. slice_index bytes ((i - 8) / 8) / 2 ^ k % 2) within
      ∙ bit_of bytes (i - 8) (omega (arith, d, l, h, above))
      ∙ sym (get_or-append-add (digits 8 b) (bits_of bytes) (i - 8) 0)
      ∙ ap (λ k. get_or (digits 8 b ++ bits_of bytes) k 0) e
]

-- bits that fill bytes stand in them from the first on
pub filled_stands : (bytes bits : List ℕ) → AreFilled bytes bits → HasBits bytes 0 bits
filled_stands bytes bits f = record {
  inside =
      let l = length-append bits (replicate f.zeros 0) in
      let m = ap length f.filled in
      let n = length-bits bytes in
      omega (arith, l, m, n);
  each = λ j below.
      let l = length-append bits (replicate f.zeros 0) in
      let m = ap length f.filled in
      ap (bit_at bytes) (zero-add j) ∙ bit_of bytes j (omega (arith, l, m, below)) ∙ ap (λ xs. get_or xs j 0) f.filled ∙ get_or_append_left bits (replicate f.zeros 0) 0 j below;
}

-- bits that stand, stand where another name of the place says
pub has_moved : (bytes : List ℕ) (p q : ℕ) (bits : List ℕ) → p ≡ q → HasBits bytes p bits → HasBits bytes q bits
has_moved bytes p q bits e h = subst (λ r. HasBits bytes r bits) e h
