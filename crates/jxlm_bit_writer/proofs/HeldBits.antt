-- The bits that a writer holds, those of its bytes, and bits more.
use Rattle.std.proofs.Common.{◌≡◌, ℕ, zero, suc, ◌+◌, ◌-◌, ◌*◌, ◌/◌, ◌%◌, ◌^◌, ◌<◌, ◌≤◌, List, [], ◌∷◌, ◌++◌, replicate, take, refl, sym, ap, ◌∙◌, arith, append_assoc}
use Rattle.std.specs.Int.{byte_at, bytes_low_first, to_le_bytes, w32, w64, div_ceil}
use Rattle.std.proofs.lemmas.List.{append-nil}
use Rattle.std.proofs.lemmas.Grind.{flat_map-append, replicate_next}
use Rattle.std.proofs.lemmas.Nat.{pow_pos, pow-add, shr-shr, shr_below, shl_whole, one_shl, mod_below, mul-add-lt}
use Rattle.std.proofs.Math.Nat.{pow-suc, pow-le-pow_right, add-mul-div_right, mod-add-div', div-eq_of_lt, div-one, zero-add}
use Rattle.jxlm_bit_writer.specs.Written.{digits, bits_of, AreFilled}
use Rattle.jxlm_bit_writer.proofs.BitLists.{digits_low}

-- the digits of a number in two parts
pub digits_split : (n m v : ℕ) → digits (n + m) v ≡ digits n v ++ digits m (v / 2 ^ n)
digits_split n zero v = ap (λ k. digits k v) (let e : n + 0 ≡ n = omega arith in e) ∙ sym (append-nil (digits n v))
digits_split n (suc m) v =
    let longer : n + suc m ≡ suc (n + m) = omega arith in
    ap (λ k. digits k v) longer
    ∙ ap (λ xs. xs ++ v / 2 ^ (n + m) % 2 ∷ []) (digits_split n m v)
    ∙ ap (λ b. (digits n v ++ digits m (v / 2 ^ n)) ++ b % 2 ∷ []) (sym (shr-shr v n m))
    ∙ append_assoc (digits n v) (digits m (v / 2 ^ n)) (v / 2 ^ n / 2 ^ m % 2 ∷ [])

-- the digits of a remainder
pub digits_mod : (n v : ℕ) → digits n (v % 2 ^ n) ≡ digits n v
digits_mod n v = sym (digits_low n (v % 2 ^ n) (v / 2 ^ n)) ∙ ap (digits n) (mod-add-div' v (2 ^ n))

power_of_bytes : (i : ℕ) → 256 ^ i ≡ 2 ^ (8 * i)
power_of_bytes zero = refl
power_of_bytes (suc i) =
    let e : 8 * suc i ≡ 8 * i + 8 = omega arith in
    pow-suc 256 i ∙ ap (λ x. x * 256) (power_of_bytes i) ∙ sym (pow-add 2 (8 * i) 8) ∙ ap (λ k. 2 ^ k) (sym e)

byte_is : (i v : ℕ) → byte_at i v ≡ v / 2 ^ (8 * i) % 2 ^ 8
byte_is zero v = ap (λ x. x % 256) (sym (div-one v))
byte_is (suc i) v = ap (λ d. v / d % 256) (power_of_bytes (suc i))

-- the bits of k bytes of a number
low_bytes : (i k v : ℕ) → bits_of (bytes_low_first i k v) ≡ digits (8 * k) (v / 2 ^ (8 * i))
low_bytes i zero v = refl
low_bytes i (suc k) v =
    let more : 8 * suc k ≡ 8 + 8 * k = omega arith in
    let next : 8 * i + 8 ≡ 8 * suc i = omega arith in
    ap (λ b. digits 8 b ++ bits_of (bytes_low_first (suc i) k v)) (byte_is i v)
    ∙ ap (λ xs. xs ++ bits_of (bytes_low_first (suc i) k v)) (digits_mod 8 (v / 2 ^ (8 * i)))
    ∙ ap (λ xs. digits 8 (v / 2 ^ (8 * i)) ++ xs) (low_bytes (suc i) k v ∙ ap (λ p. digits (8 * k) (v / 2 ^ p)) (sym next) ∙ ap (digits (8 * k)) (sym (shr-shr v (8 * i) 8)))
    ∙ sym (digits_split 8 (8 * k) (v / 2 ^ (8 * i)))
    ∙ ap (λ n. digits n (v / 2 ^ (8 * i))) (sym more)

first_bytes : (k v : ℕ) → bits_of (bytes_low_first 0 k v) ≡ digits (8 * k) v
first_bytes k v = low_bytes 0 k v ∙ ap (digits (8 * k)) (div-one v)

-- what a put adds to the held number, as the machine computes it
sum_is : (held count n value : ℕ) → count < 32 → n ≤ 32 →
    held + value % (1 * 2 ^ n % 18446744073709551616) * 2 ^ count % 18446744073709551616 ≡ held + value % 2 ^ n * 2 ^ count
sum_is held count n value few most =
    let one : 1 * 2 ^ n % 18446744073709551616 ≡ 2 ^ n = one_shl n 64 (omega (arith, most)) in
    let whole : value % 2 ^ n * 2 ^ count % 18446744073709551616 ≡ value % 2 ^ n * 2 ^ count =
    shl_whole (value % 2 ^ n) n count 64 (mod_below value (2 ^ n) (pow_pos n)) (omega (arith, few, most)) in
    ap (λ p. held + value % p * 2 ^ count % 18446744073709551616) one ∙ ap (λ x. held + x) whole

-- it has as many bits as are held then
pub sum_fits : (held count n value : ℕ) → held < 2 ^ count → count < 32 → n ≤ 32 →
    held + value % (1 * 2 ^ n % 18446744073709551616) * 2 ^ count % 18446744073709551616 < 2 ^ (count + n)
sum_fits held count n value small few most =
    let m = mul-add-lt (value % 2 ^ n) (2 ^ count) held (2 ^ n) (mod_below value (2 ^ n) (pow_pos n)) small in
    rw (sum_is held count n value few most, pow-add 2 count n) (omega (arith, m))

-- and above its lowest 32 those that are left
pub rest_fits : (held count n value : ℕ) → held < 2 ^ count → count < 32 → n ≤ 32 → 32 ≤ count + n →
    (held + value % (1 * 2 ^ n % 18446744073709551616) * 2 ^ count % 18446744073709551616) / 4294967296 < 2 ^ (count + n - 32)
rest_fits held count n value small few most full =
    let sum : ℕ = held + value % (1 * 2 ^ n % 18446744073709551616) * 2 ^ count % 18446744073709551616 in
    let e : count + n ≡ count + n - 32 + 32 = omega (arith, full) in
    shr_below sum (count + n - 32) 32 (rw (← e) (sum_fits held count n value small few most))

-- the held bits and those that were put
sum_digits : (held count n value : ℕ) → held < 2 ^ count → count < 32 → n ≤ 32 →
    digits (count + n) (held + value % (1 * 2 ^ n % 18446744073709551616) * 2 ^ count % 18446744073709551616) ≡ digits count held ++ digits n value
sum_digits held count n value small few most =
    let low : ℕ = value % 2 ^ n in
    ap (digits (count + n)) (sum_is held count n value few most)
    ∙ digits_split count n (held + low * 2 ^ count)
    ∙ ap (λ xs. xs ++ digits n ((held + low * 2 ^ count) / 2 ^ count)) (digits_low count held low)
    ∙ ap (λ x. digits count held ++ digits n x) (add-mul-div_right held low (pow_pos count) ∙ ap (λ x. x + low) (div-eq_of_lt small) ∙ zero-add low)
    ∙ ap (λ xs. digits count held ++ xs) (digits_mod n value)

-- bits more, all held
pub put_held : (bytes : List ℕ) (held count n value : ℕ) → held < 2 ^ count → count < 32 → n ≤ 32 →
    bits_of bytes ++ digits (count + n) (held + value % (1 * 2 ^ n % 18446744073709551616) * 2 ^ count % 18446744073709551616) ≡ (bits_of bytes ++ digits count held) ++ digits n value
put_held bytes held count n value small few most =
    ap (λ xs. bits_of bytes ++ xs) (sum_digits held count n value small few most) ∙ sym (append_assoc (bits_of bytes) (digits count held) (digits n value))

-- bits more, and the lowest 32 of them become bytes
pub put_word : (bytes new : List ℕ) (held count n value : ℕ) → held < 2 ^ count → count < 32 → n ≤ 32 → 32 ≤ count + n →
    new ≡ bytes ++ to_le_bytes w32 ((held + value % (1 * 2 ^ n % 18446744073709551616) * 2 ^ count % 18446744073709551616) % 4294967296) →
    bits_of new ++ digits (count + n - 32) ((held + value % (1 * 2 ^ n % 18446744073709551616) * 2 ^ count % 18446744073709551616) / 4294967296)
    ≡ (bits_of bytes ++ digits count held) ++ digits n value
put_word bytes new held count n value small few most full e =
    let sum : ℕ = held + value % (1 * 2 ^ n % 18446744073709551616) * 2 ^ count % 18446744073709551616 in
    let rest : List ℕ = digits (count + n - 32) (sum / 4294967296) in
    let whole : 32 + (count + n - 32) ≡ count + n = omega (arith, full) in
    let parts : digits 32 sum ++ rest ≡ digits (32 + (count + n - 32)) sum = sym (digits_split 32 (count + n - 32) sum) in
    ap (λ xs. bits_of xs ++ rest) e
    ∙ ap (λ xs. xs ++ rest) (flat_map-append (digits 8) bytes (to_le_bytes w32 (sum % 4294967296)))
    ∙ append_assoc (bits_of bytes) (bits_of (to_le_bytes w32 (sum % 4294967296))) rest
    ∙ ap (λ xs. bits_of bytes ++ (xs ++ rest)) (first_bytes 4 (sum % 4294967296) ∙ digits_mod 32 sum)
    ∙ ap (λ xs. bits_of bytes ++ xs) (parts ∙ ap (λ k. digits k sum) whole)
    ∙ put_held bytes held count n value small few most

pub wrapped_sum : (a b : ℕ) → (a + b % 18446744073709551616) % 18446744073709551616 ≡ (a + b) % 18446744073709551616
wrapped_sum a b = omega arith

-- 64 bits more: with those held, the lowest 64 become bytes
module _ (held count word : ℕ) (small : held < 2 ^ count) (few : count < 32) where
  abbrev all : ℕ
  all = held + word * 2 ^ count

  above_all : all / 2 ^ count ≡ word
  above_all = add-mul-div_right held word (pow_pos count) ∙ ap (λ x. x + word) (div-eq_of_lt small) ∙ zero-add word

  above_word : word / 4294967296 / 2 ^ (32 - count) ≡ word / 2 ^ (64 - count)
  above_word = let e : 32 + (32 - count) ≡ 64 - count = omega (arith, few) in shr-shr word 32 (32 - count) ∙ ap (λ k. word / 2 ^ k) e

  pub above_bytes : word / 4294967296 / 2 ^ (32 - count) ≡ all / 18446744073709551616
  above_bytes =
      let e : count + (64 - count) ≡ 64 = omega (arith, few) in
      above_word ∙ ap (λ x. x / 2 ^ (64 - count)) (sym above_all) ∙ shr-shr all count (64 - count) ∙ ap (λ k. all / 2 ^ k) e

  pub above_fits : word < 2 ^ 64 → word / 4294967296 / 2 ^ (32 - count) < 2 ^ count
  above_fits fits =
      let e : count + (64 - count) ≡ 64 = omega (arith, few) in
      let b : word / 2 ^ (64 - count) < 2 ^ count = shr_below word count (64 - count) (rw e fits) in
      rw above_word b

  pub put_whole : (bytes new : List ℕ) → new ≡ bytes ++ to_le_bytes w64 ((held + word * 2 ^ count % 18446744073709551616) % 18446744073709551616) →
      bits_of new ++ digits count (word / 4294967296 / 2 ^ (32 - count)) ≡ (bits_of bytes ++ digits count held) ++ digits 64 word
  put_whole bytes new e =
      let low : ℕ = (held + word * 2 ^ count % 18446744073709551616) % 18446744073709551616 in
      let rest : List ℕ = digits count (word / 4294967296 / 2 ^ (32 - count)) in
      let turned : 64 + count ≡ count + 64 = omega arith in
      ap (λ xs. bits_of xs ++ rest) e
      ∙ ap (λ xs. xs ++ rest) (flat_map-append (digits 8) bytes (to_le_bytes w64 low))
      ∙ append_assoc (bits_of bytes) (bits_of (to_le_bytes w64 low)) rest
      ∙ ap (λ xs. bits_of bytes ++ (xs ++ rest)) (first_bytes 8 low ∙ ap (digits 64) (wrapped_sum held (word * 2 ^ count)) ∙ digits_mod 64 all)
      ∙ ap (λ x. bits_of bytes ++ (digits 64 all ++ digits count x)) above_bytes
      ∙ ap (λ xs. bits_of bytes ++ xs) (sym (digits_split 64 count all) ∙ ap (λ k. digits k all) turned ∙ digits_split count 64 all)
      ∙ ap (λ xs. bits_of bytes ++ (xs ++ digits 64 (all / 2 ^ count))) (digits_low count held word)
      ∙ ap (λ x. bits_of bytes ++ (digits count held ++ digits 64 x)) above_all
      ∙ sym (append_assoc (bits_of bytes) (digits count held) (digits 64 word))

-- what digits a held number has beyond its own: zeros
zeros_above : (n v k : ℕ) → v < 2 ^ n → digits (n + k) v ≡ digits n v ++ replicate k 0
zeros_above n v zero h = ap (λ m. digits m v) (let e : n + 0 ≡ n = omega arith in e) ∙ sym (append-nil (digits n v))
zeros_above n v (suc k) h =
    let wide : 2 ^ n ≤ 2 ^ (n + k) = pow-le-pow_right (omega arith) (omega arith) in
    let none : v / 2 ^ (n + k) % 2 ≡ 0 = ap (λ x. x % 2) (div-eq_of_lt (omega (arith, h, wide))) in
    let next : k + 1 ≡ suc k = omega arith in
    let longer : n + suc k ≡ suc (n + k) = omega arith in
    ap (λ m. digits m v) longer
    ∙ ap (λ xs. xs ++ v / 2 ^ (n + k) % 2 ∷ []) (zeros_above n v k h)
    ∙ ap (λ b. (digits n v ++ replicate k 0) ++ b ∷ []) none
    ∙ append_assoc (digits n v) (replicate k 0) (0 ∷ [])
    ∙ ap (λ xs. digits n v ++ xs) (sym (replicate_next k 0) ∙ ap (λ m. replicate m 0) next)

take_low : (i k j v : ℕ) → take k (bytes_low_first i (k + j) v) ≡ bytes_low_first i k v
take_low i zero j v = refl
take_low i (suc k) j v =
    let next : suc k + j ≡ suc (k + j) = omega arith in
    ap (λ m. take (suc k) (bytes_low_first i m v)) next ∙ ap (λ xs. byte_at i v ∷ xs) (take_low (suc i) k j v)

-- the bits that are held fill bytes
pub filled : (bytes new : List ℕ) (held count many : ℕ) → held < 2 ^ count → count < 32 → many ≡ div_ceil count 8 → new ≡ bytes ++ take many (to_le_bytes w64 held) →
    AreFilled new (bits_of bytes ++ digits count held)
filled bytes new held count many small few ceil e = record {
  zeros = 8 * many - count;
  few = omega (arith, ceil);
  filled =
      let all : 8 ≡ many + (8 - many) = omega (arith, ceil, few) in
      let n : 8 * many ≡ count + (8 * many - count) = omega (arith, ceil) in
      ap bits_of e
      ∙ flat_map-append (digits 8) bytes (take many (to_le_bytes w64 held))
      ∙ ap (λ xs. bits_of bytes ++ bits_of xs) (ap (λ k. take many (bytes_low_first 0 k held)) all ∙ take_low 0 many (8 - many) held)
      ∙ ap (λ xs. bits_of bytes ++ xs) (first_bytes many held ∙ ap (λ k. digits k held) n ∙ zeros_above count held (8 * many - count) small)
      ∙ sym (append_assoc (bits_of bytes) (digits count held) (replicate (8 * many - count) 0));
}
