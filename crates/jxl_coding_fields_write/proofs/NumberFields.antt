-- Numbers that were written are read.
use Rattle.std.proofs.Common.{◌≡◌, ℕ, suc, ◌+◌, ◌-◌, ◌*◌, ◌^◌, ◌<◌, ◌≤◌, List, ◌++◌, length, Ok, false, refl, ap, subst, inl, inr, arith}
use Rattle.std.proofs.lemmas.Bool.{le-ltb, cases_lt}
use Rattle.std.proofs.lemmas.Nat.{leading_top}
use Rattle.std.proofs.Math.Nat.{mod-eq_of_lt, pow-suc, pow-le-pow_right}
use lib.Count.{count_leading_zeros}
use Rattle.jxlm_bit_writer.specs.Writes.{Writes}
use Rattle.jxlm_bit_writer.specs.Written.{digits, HasBits}
use Rattle.jxlm_bit_writer.proofs.BitLists.{length-digits, number_stands}
use Rattle.jxlm_bit_writer.proofs.WriteLaws.{after, becomes}
use Rattle.jxl_coding_codes.specs.Fields.{number_at, var_len_at}

number_read : (n v : ℕ) → v < 2 ^ n → (bytes : List ℕ) (p : ℕ) → HasBits bytes p (digits n v) → number_at bytes p n ≡ Ok (record { value = v; position = p + length (digits n v) })
unfolding number_at
number_read n v small bytes p h =
    let l = length-digits n v in
    let i = h.inside in
    let q : p + n ≡ p + length (digits n v) = omega (arith, l) in
    rw (le-ltb (8 * length bytes) (p + n) (omega (arith, l, i)), number_stands bytes p n v h, mod-eq_of_lt small) (ap (λ (r : ℕ). Ok (record { value = v; position = r })) q)

pub number_writes : (n v : ℕ) (a b : List ℕ) → v < 2 ^ n → b ≡ a ++ digits n v → Writes a b (λ bytes p. number_at bytes p n) v
number_writes n v a b small e = record { word = digits n v; added = e; holds = number_read n v small }

-- the width of a number, and the number
pub digit_count : (value width : ℕ) → 0 < value → value < 2 ^ 8 → width ≡ 31 - count_leading_zeros 32 value → (width < 8) × (2 ^ width ≤ value) × (value - 2 ^ width < 2 ^ width) × (2 ^ width + (value - 2 ^ width) ≡ value)
digit_count value width some fits e =
    let t = leading_top 32 value some (omega (arith, fits)) in
    let j : ℕ = t.0 in
    let all : count_leading_zeros 32 value + suc j ≡ 32 = t.1 in
    let k : j ≡ width = omega (arith, all, e) in
    let least : 2 ^ width ≤ value = subst (λ (n : ℕ). 2 ^ n ≤ value) k t.2 in
    let most : value < 2 ^ suc width = subst (λ (n : ℕ). value < 2 ^ suc n) k t.3 in
    let twice : 2 ^ suc width ≡ 2 ^ width * 2 = pow-suc 2 width in
    (few width least, least, omega (arith, most, twice, least), omega (arith, least))
  where
    few : (w : ℕ) → 2 ^ w ≤ value → w < 8
    few w le = elim (cases_lt w 8) [ inl lt ↦ lt | inr ge ↦ let up : 2 ^ 8 ≤ 2 ^ w = pow-le-pow_right {n = 2} (omega arith) ge in absurd (omega (arith, up, le, fits)) ]

pub var_len_writes : (value width : ℕ) (a b c d : List ℕ) → 0 < value → value < 2 ^ 8 → width ≡ 31 - count_leading_zeros 32 value → b ≡ a ++ digits 1 1 → c ≡ b ++ digits 3 width → d ≡ c ++ digits width (value - 2 ^ width) →
    Writes a d (λ bytes p. var_len_at bytes p false) value
unfolding var_len_at
var_len_writes value width a b c d some fits e f g h =
    let k = digit_count value width some fits e in
    let few = k.0 in
    let all = k.3 in
    becomes (after (number_writes 1 1 a b (omega arith) f) (after (number_writes 3 width b c (omega (arith, few)) g) (number_writes width (value - 2 ^ width) c d k.2 h)))
    (λ bytes p q s. rw (s.1, s.2.1, s.2.2, all) refl)

pub var_len_zero : (value : ℕ) (a b : List ℕ) → value ≡ 0 → b ≡ a ++ digits 1 0 → Writes a b (λ bytes p. var_len_at bytes p false) value
unfolding var_len_at
var_len_zero value a b z e = becomes (number_writes 1 0 a b (omega arith) e) (λ bytes p q s. rw (s, z) refl)
