-- Spellings of numbers of up to 64 bits.
use Rattle.std.proofs.Common.{◌≡◌, ℕ, zero, suc, ◌+◌, ◌-◌, ◌*◌, ◌/◌, ◌%◌, ◌^◌, ◌<◌, ◌≤◌, List, true, false, refl, sym, subst, arith}
use Rattle.std.proofs.Math.Nat.{pow-suc, div-lt_iff_lt-mul, div-add-mod}
use Rattle.jxlm_bits.specs.Grammar.{flag, number}
use Rattle.jxlm_bit_writer.specs.Writes.{Spells}
use Rattle.jxlm_bit_writer.proofs.WriteLaws.{after, becomes}
use Rattle.jxl_image_header.specs.Fields.{groups, long}

-- no more groups
pub groups_none : (n v : ℕ) (a b : List ℕ) → v ≡ 0 → Spells a b flag false → Spells a b (groups n) v
unfolding groups
groups_none zero v a b e u = becomes u (λ bytes p q s. (false, q, s, (e, refl)))
groups_none (suc n) v a b e u = becomes u (λ bytes p q s. (false, q, s, (e, refl)))

-- the last group
pub groups_last : (n v : ℕ) (a b c : List ℕ) → n ≡ 0 → Spells a b flag true → Spells b c (number 4) v → Spells a c (groups n) v
unfolding groups
groups_last zero v a b c e u w = becomes (after u w) (λ bytes p q s. (true, s.0, s.1, s.2))
groups_last (suc n) v a b c e u w = absurd (omega (arith, e))

-- a group before others
pub groups_more : (n v : ℕ) (a b c d : List ℕ) → 0 < n → Spells a b flag true → Spells b c (number 8) (v % 256) → Spells c d (groups (n - 1)) (v / 256) → Spells a d (groups n) v
unfolding groups
groups_more zero v a b c d some u w x = absurd (omega (arith, some))
groups_more (suc n) v a b c d some u w x =
    let k : suc n - 1 ≡ n = omega arith in
    let e : v ≡ v % 256 + 256 * (v / 256) = let m = div-add-mod v 256 in omega (arith, m) in
    let y : Spells c d (groups n) (v / 256) = subst (λ (m : ℕ). Spells c d (groups m) (v / 256)) k x in
    becomes (after u (after w y)) (λ bytes p q s. (true, s.0, s.1, (v % 256, s.2.0, s.2.1, (v / 256, q, s.2.2, (e, refl)))))

pub rest_below : (v n : ℕ) → 0 < n → v < 16 * 256 ^ n → v / 256 < 16 * 256 ^ (n - 1)
rest_below v zero some lt = absurd (omega (arith, some))
rest_below v (suc n) some lt =
    let k : n ≡ suc n - 1 = omega arith in
    let m : 256 ^ suc n ≡ 256 ^ n * 256 = pow-suc 256 n in
    let room : v < 16 * 256 ^ n * 256 = omega (arith, lt, m) in
    subst (λ (i : ℕ). v / 256 < 16 * 256 ^ i) k ((div-lt_iff_lt-mul {k = 256} {x = v} {y = 16 * 256 ^ n} (omega arith)).1 room)

pub last_below : (v n : ℕ) → n ≡ 0 → v < 16 * 256 ^ n → v < 16
last_below v n e lt = let room : v < 16 * 256 ^ 0 = subst (λ (i : ℕ). v < 16 * 256 ^ i) e lt in omega (arith, room)

pub long_zero : (v : ℕ) (a b : List ℕ) → v ≡ 0 → Spells a b (number 2) 0 → Spells a b long v
unfolding long
long_zero v a b e u = becomes u (λ bytes p q s. (0, q, s, (e, refl)))

pub long_small : (v : ℕ) (a b c : List ℕ) → 0 < v → Spells a b (number 2) 1 → Spells b c (number 4) (v - 1) → Spells a c long v
unfolding long
long_small v a b c some u w = let e : v ≡ 1 + (v - 1) = omega (arith, some) in becomes (after u w) (λ bytes p q s. (1, s.0, s.1, (v - 1, q, s.2, (e, refl))))

pub long_middle : (v : ℕ) (a b c : List ℕ) → 17 ≤ v → Spells a b (number 2) 2 → Spells b c (number 8) (v - 17) → Spells a c long v
unfolding long
long_middle v a b c some u w = let e : v ≡ 17 + (v - 17) = omega (arith, some) in becomes (after u w) (λ bytes p q s. (2, s.0, s.1, (v - 17, q, s.2, (e, refl))))

pub long_large : (v : ℕ) (a b c d : List ℕ) → Spells a b (number 2) 3 → Spells b c (number 12) (v % 4096) → Spells c d (groups 6) (v / 4096) → Spells a d long v
unfolding long
long_large v a b c d u w x =
    let e : v ≡ v % 4096 + 4096 * (v / 4096) = let m = div-add-mod v 4096 in omega (arith, m) in
    becomes (after u (after w x)) (λ bytes p q s. (3, s.0, s.1, (v % 4096, s.2.0, s.2.1, (v / 4096, q, s.2.2, (e, refl)))))

pub high_below : (v : ℕ) → v < 2 ^ 64 → v / 4096 < 16 * 256 ^ 6
high_below v lt =
    let k : 16 * 256 ^ 6 * 4096 ≡ 2 ^ 64 = refl in
    (div-lt_iff_lt-mul {k = 4096} {x = v} {y = 16 * 256 ^ 6} (omega arith)).1 (subst (λ (n : ℕ). v < n) (sym k) lt)
