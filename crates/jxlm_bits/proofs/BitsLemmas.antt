-- Numbers of consecutive bits: two that meet, a part of one, and the number of whole bytes.
use Rattle.std.proofs.Common.{◌≡◌, ℕ, zero, suc, ◌+◌, ◌-◌, ◌*◌, ◌/◌, ◌%◌, ◌^◌, ◌<◌, ◌≤◌, List, slice_index, arith, add_assoc, add-zero, zero-add, refl, ◌∙◌}
use Rattle.std.proofs.Math.Nat.{pow-suc, add-mul, mul_assoc, mul_comm, add-mul-div_right, add-mul-mod_self_right, div-eq_of_lt, mod-eq_of_lt}
use Rattle.std.proofs.lemmas.Nat.{pow-add, mod-pow-add}
use Rattle.std.specs.Int.{w64, from_le_bytes, sum_through, byte_worth}
use Rattle.jxlm_bits.specs.Bits.{bit_at, bits_at}

-- a bit is 0 or 1
pub bit_at-bound : (bytes : List ℕ) (i : ℕ) → bit_at bytes i < 2
bit_at-bound bytes i = omega arith

doubled : (v b m : ℕ) → v < m → b < 2 → v + b * m < 2 * m
doubled v b m hv hb = grind arith

-- n bits are below 2 ^ n
pub bits_at-bound : (bytes : List ℕ) (p n : ℕ) → bits_at bytes p n < 2 ^ n
bits_at-bound bytes p zero = omega arith
bits_at-bound bytes p (suc n) =
    let d = doubled (bits_at bytes p n) (bit_at bytes (p + n)) (2 ^ n) (bits_at-bound bytes p n) (bit_at-bound bytes (p + n)) in
    omega (arith, d, pow-suc 2 n)

joined : (low mid bit a b c : ℕ) → c ≡ a * b → low + mid * a + bit * c ≡ low + (mid + bit * b) * a
joined low mid bit a b c e =
    rw (e, add-mul mid (bit * b) a, mul_assoc bit b a, mul_comm b a) (add_assoc low (mid * a) (bit * (a * b)))

-- n bits and after them m are the n + m bits
pub bits_at-join : (bytes : List ℕ) (p n m : ℕ) → bits_at bytes p (n + m) ≡ bits_at bytes p n + bits_at bytes (p + n) m * 2 ^ n
bits_at-join bytes p n zero = rw (add-zero n) (omega arith)
bits_at-join bytes p n (suc m) =
    let e : n + suc m ≡ suc (n + m) = omega arith in
    let j = joined (bits_at bytes p n) (bits_at bytes (p + n) m) (bit_at bytes (p + (n + m))) (2 ^ n) (2 ^ m) (2 ^ (n + m)) (pow-add 2 n m) in
    rw (e, bits_at-join bytes p n m, add_assoc p n m) j

part_of : (low mid high m n : ℕ) → low < m → mid < n → (low + (mid + high * n) * m) / m % n ≡ mid
part_of low mid high m n a b =
    let some : 0 < m = omega arith in
    rw (add-mul-div_right low (mid + high * n) {z = m} some, div-eq_of_lt a, zero-add, add-mul-mod_self_right mid high n) (mod-eq_of_lt b)

-- n bits of a longer number, from its bit b on
pub bits_at-part : (bytes : List ℕ) (p b n r : ℕ) → bits_at bytes p (b + (n + r)) / 2 ^ b % 2 ^ n ≡ bits_at bytes (p + b) n
bits_at-part bytes p b n r =
    rw (bits_at-join bytes p b (n + r), bits_at-join bytes (p + b) n r)
    (part_of (bits_at bytes p b) (bits_at bytes (p + b) n) (bits_at bytes (p + b + n) r) (2 ^ b) (2 ^ n) (bits_at-bound bytes p b) (bits_at-bound bytes (p + b) n))

-- j bits from the first bit of a byte on, within that byte, are a remainder of the byte
within_byte : (bytes : List ℕ) (i j : ℕ) → j ≤ 8 → bits_at bytes (8 * i) j ≡ slice_index bytes i % 2 ^ j
within_byte bytes i zero h = omega arith
within_byte bytes i (suc j) h =
    let here : (8 * i + j) / 8 ≡ i = omega arith in
    let there : (8 * i + j) % 8 ≡ j = omega arith in
    let e : 1 + j ≡ suc j = omega arith in
    let byte = slice_index bytes i in
    let more : byte % 2 ^ suc j ≡ byte / 2 ^ j % 2 ^ 1 * 2 ^ j + byte % 2 ^ j = rw (← e) (mod-pow-add byte 1 j) in
    rw (here, there, within_byte bytes i j (omega arith), more) (omega arith)

-- the eight bits from the first bit of a byte on are the byte
pub bits_at-byte : (bytes : List ℕ) (i n : ℕ) → n ≡ 8 → slice_index bytes i < 256 → bits_at bytes (8 * i) n ≡ slice_index bytes i
bits_at-byte bytes i n e h =
    let small : slice_index bytes i < 2 ^ n = rw e h in
    within_byte bytes i n (omega arith) ∙ mod-eq_of_lt small

pow_of_bytes : (k : ℕ) → 256 ^ k ≡ 2 ^ (8 * k)
pow_of_bytes zero = refl
pow_of_bytes (suc k) =
    let e : 8 * suc k ≡ 8 * k + 8 = omega arith in
    rw (e, pow-suc 256 k, pow-add 2 (8 * k) 8, pow_of_bytes k) (omega arith)

worth : (k b : ℕ) → byte_worth k b ≡ b * 2 ^ (8 * k)
worth zero b = omega arith
worth (suc k) b = rw (pow_of_bytes (suc k)) refl

-- xs has bytes, below k those from i on
pub record Copies (xs bytes : List ℕ) (i k : ℕ) : Type 0 where
  pub same : (j : ℕ) → j < k → slice_index xs j ≡ slice_index bytes (i + j)
  pub small : (j : ℕ) → slice_index xs j < 256

whole_byte : (xs bytes : List ℕ) (i m k n : ℕ) → Copies xs bytes i m → k < m → n ≡ 8 → byte_worth k (slice_index xs k) ≡ bits_at bytes (8 * i + 8 * k) n * 2 ^ (8 * k)
whole_byte xs bytes i m k n h l e =
    let place : 8 * i + 8 * k ≡ 8 * (i + k) = omega arith in
    let small : slice_index bytes (i + k) < 256 = rw (← h.same k l) (h.small k) in
    rw (worth k (slice_index xs k), h.same k l, place, bits_at-byte bytes (i + k) n e small) refl

-- bytes below the last, and the last
added : (n m low last : ℕ) (w high : ℕ → ℕ) → n ≡ m + 8 → low ≡ w m → ((c : ℕ) → w (m + c) ≡ w m + high c) → ((c : ℕ) → c ≡ 8 → last ≡ high c) → low + last ≡ w n
added n m low last w high e a j l = rw (e, a, j 8, l 8 refl) refl

whole_bytes : (xs bytes : List ℕ) (i m k n : ℕ) → Copies xs bytes i m → k < m → n ≡ 8 * (k + 1) → sum_through (λ j. byte_worth j (slice_index xs j)) k ≡ bits_at bytes (8 * i) n
whole_bytes xs bytes i m zero n h l e =
    let first = whole_byte xs bytes i m zero n h l (omega arith) in
    let place : 8 * i + 8 * zero ≡ 8 * i = omega arith in
    first ∙ rw place (omega arith)
whole_bytes xs bytes i m (suc k) n h l e =
    let before : 8 * suc k ≡ 8 * (k + 1) = omega arith in
    let both : n ≡ 8 * suc k + 8 = omega arith in
    let first = whole_bytes xs bytes i m k (8 * suc k) h (omega arith) before in
    added n (8 * suc k) _ _ (bits_at bytes (8 * i)) (λ c. bits_at bytes (8 * i + 8 * suc k) c * 2 ^ (8 * suc k)) both first (bits_at-join bytes (8 * i) (8 * suc k))
    (λ c. whole_byte xs bytes i m (suc k) c h l)

-- a part of the number of eight bytes
pub word_part : (xs bytes : List ℕ) (i b n : ℕ) → Copies xs bytes i 8 → b + n ≤ 64 → from_le_bytes w64 xs / 2 ^ b % 2 ^ n ≡ bits_at bytes (8 * i + b) n
word_part xs bytes i b n h l =
    let r : ℕ = 64 - (b + n) in
    let e : b + (n + r) ≡ 8 * (7 + 1) = omega arith in
    let whole = whole_bytes xs bytes i 8 7 (b + (n + r)) h (omega arith) e in
    rw whole (bits_at-part bytes (8 * i) b n r)

one_bit : (bytes : List ℕ) (p : ℕ) → bits_at bytes p 1 ≡ bit_at bytes p
one_bit bytes p = rw (add-zero p) (omega arith)

-- bit j of the number of n bits
pub bits_at-digit : (bytes : List ℕ) (p n j : ℕ) → j < n → bits_at bytes p n / 2 ^ j % 2 ≡ bit_at bytes (p + j)
bits_at-digit bytes p n j h =
    let e : n ≡ j + (1 + (n - suc j)) = omega arith in
    let part = bits_at-part bytes p j 1 (n - suc j) in
    rw e (part ∙ one_bit bytes (p + j))
