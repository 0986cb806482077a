-- Bounds of numbers and of positions in a table.
use Rattle.std.proofs.Common.{◌≡◌, ℕ, zero, suc, ◌+◌, ◌-◌, ◌*◌, ◌/◌, ◌%◌, ◌^◌, ◌<◌, ◌≤◌, arith, refl, List, Err}
use Rattle.std.specs.Prelude.{slice_index}
use Rattle.std.proofs.lemmas.Bool.{lt-leb, le-ltb}
use Rattle.jxl_icc.specs.Numbers.{number_within}
use Rattle.jxl_icc.specs.declared.error.ProfileError.{ProfileError}
use Rattle.std.proofs.Math.Nat.{pow-suc, one-le-pow, pow-le-pow_right, mod-lt, div-lt_iff_lt-mul, mul-le-mul_right, suc-mul, div-add-mod, zero-mul, mul-add, mul_comm}

-- one byte of a number is below
pub low_below : (most low : ℕ) → 0 < most → low < 128 → low < 128 ^ most
low_below zero low h l = absurd (omega arith)
low_below (suc n) low h l = let p : 1 ≤ 128 ^ n = one-le-pow n 128 (omega arith) in rw (pow-suc 128 n) (omega arith)

-- a byte from 128 on, and what follows it
pub high_below : (most low high : ℕ) → 0 < most → low < 256 → high < 128 ^ (most - 1) → low - 128 + 128 * high < 128 ^ most
high_below zero low high h l k = absurd (omega arith)
high_below (suc n) low high h l k = let e : suc n - 1 ≡ n = omega arith in let k2 : high < 128 ^ n = rw e at k in rw (pow-suc 128 n) (omega arith)

-- what follows the first byte of a number is small
pub high_small : (most high : ℕ) → 0 < most → most ≤ 9 → high < 128 ^ (most - 1) → high < 72057594037927936
high_small most high h few k =
    let le : most - 1 ≤ 8 = omega arith in
    let pos : 0 < 128 = omega arith in
    let p : 128 ^ (most - 1) ≤ 128 ^ 8 = pow-le-pow_right {n = 128} pos {i = most - 1} {j = 8} le in
    let q : 128 ^ 8 ≡ 72057594037927936 = refl in omega arith

-- a byte after the longer columns is one of the table
table_inside : (d w l k : ℕ) → 0 < w → k < d * w → k % w * (d + l) + l + k / w < w * (d + l) + l
table_inside d w l k pw h =
    let col : k / w < d = (div-lt_iff_lt-mul {k = w} {x = k} {y = d} pw).1 h in
    let row : k % w < w = mod-lt k pw in
    let next : suc (k % w) ≤ w = omega arith in
    let more : suc (k % w) * (d + l) ≤ w * (d + l) = mul-le-mul_right {m = suc (k % w)} {n = w} (d + l) next in
    let split : suc (k % w) * (d + l) ≡ k % w * (d + l) + (d + l) = suc-mul (k % w) (d + l) in
    omega arith

shorter_inside : (d q l i : ℕ) → i < q * (d + l) + l → l * (q + 1) ≤ i → (i - l * (q + 1)) % q * (d + l) + l + (i - l * (q + 1)) / q < q * (d + l) + l
shorter_inside d zero l i lt le = absurd (let a : zero * (d + l) ≡ 0 = zero-mul (d + l) in omega arith)
shorter_inside d (suc q) l i lt le =
    let a : suc q * (d + l) ≡ suc q * d + suc q * l = mul-add (suc q) d l in
    let b : l * (suc q + 1) ≡ l * suc q + l * 1 = mul-add l (suc q) 1 in
    let m : l * suc q ≡ suc q * l = mul_comm l (suc q) in
    let k : d * suc q ≡ suc q * d = mul_comm d (suc q) in
    table_inside d (suc q) l (i - l * (suc q + 1)) (omega arith) (omega arith)

-- the same by the columns and the size of a table
pub else_inside : (n c i : ℕ) → 0 < c → i < n → n % c * (n / c + 1) ≤ i →
    (i - n % c * (n / c + 1)) % (n / c) * c + n % c + (i - n % c * (n / c + 1)) / (n / c) < n
else_inside n c i pc lt le =
    let lc : n % c < c = mod-lt n pc in
    let e : c - n % c + n % c ≡ c = omega arith in
    let all : c * (n / c) + n % c ≡ n = div-add-mod n c in
    let m : n / c * c ≡ c * (n / c) = mul_comm (n / c) c in
    let first : i < n / c * (c - n % c + n % c) + n % c = rw e (omega arith) in
    let h = shorter_inside (c - n % c) (n / c) (n % c) i first le in
    let g : (i - n % c * (n / c + 1)) % (n / c) * c + n % c + (i - n % c * (n / c + 1)) / (n / c) < n / c * c + n % c = rw e at h in
    omega arith

-- a number whose later bytes have an error
pub number_fails : (bytes : List ℕ) (end most p : ℕ) (e : ProfileError) → 0 < most → p < end → 128 ≤ slice_index bytes p →
    number_within bytes end (most - 1) (p + 1) ≡ Err e → Err e ≡ number_within bytes end most p
unfolding number_within
number_fails bytes end zero p e h lt hi r = absurd (omega arith)
number_fails bytes end (suc n) p e h lt hi r =
    let k : suc n - 1 ≡ n = omega arith in
    let q : number_within bytes end n (p + 1) ≡ Err e = rw k at r in
    rw (lt-leb end p lt, le-ltb (slice_index bytes p) 128 hi, q) refl
