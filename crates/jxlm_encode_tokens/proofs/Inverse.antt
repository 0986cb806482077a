-- Odd numbers are undone modulo 2 ^ 32, and with them the multipliers of leaves.
use Rattle.std.proofs.Common.{◌≡◌, ℕ, zero, suc, ◌+◌, ◌*◌, ◌/◌, ◌%◌, ◌^◌, ◌<◌, ◌≤◌, sym, ap, ◌∙◌, subst, arith, ℤ, pos, ◌+ℤ◌, ◌-ℤ◌, ◌*ℤ◌, FitsSigned}
use Rattle.std.specs.Int.{w32, int_wrap, cast_signed}
use Rattle.std.proofs.lemmas.Int.{ints, int_wrap_fits, SFits-int_wrap, int_wrap-add_left, int_wrap-mul_left, int_wrap-mul_right}
use Rattle.std.proofs.lemmas.Nat.{div-mul-add}
use Rattle.std.proofs.Math.IntN.{+ℤ_assoc, pos-*ℤ-pos}
use Rattle.jxlm_bits.specs.Numbers.{unpack}
use Rattle.jxlm_ma_tree.specs.declared.leaf.Leaf.{Leaf}
use Rattle.jxlm_samples.specs.Coded.{sample_of}
use Rattle.jxlm_samples.specs.Token.{IsTokenOf}
use Rattle.jxlm_samples.proofs.TokenLaw.{double, each_has_token, halve, mul_assoc, power_suc}
use Rattle.jxlm_encode_tokens.proofs.OneToken.{readded, times_one}

-- an odd number, times this one, is 1 modulo 2 ^ k
pub record Undoes (odd k by : ℕ) : Type 0 where
  pub small : by < 2 ^ k
  pub times : ℕ
  pub is : by * odd ≡ 1 + 2 ^ k * times

pub first_undoes : (odd : ℕ) → odd % 2 ≡ 1 → Undoes odd 1 1
first_undoes odd h = record { small = omega arith; times = odd / 2; is = omega (arith, h) }

power_more : (k : ℕ) → 2 ^ (k + 1) ≡ 2 * 2 ^ k
power_more k = ap (λ n. 2 ^ n) (let e : k + 1 ≡ suc k = omega arith in e) ∙ power_suc k

one_small : (k : ℕ) → 1 ≤ k → 1 < 2 ^ k
one_small zero h = absurd (omega (arith, h))
one_small (suc zero) h = omega arith
one_small (suc (suc k)) h = let p = one_small (suc k) (omega arith) in let e = power_suc (suc k) in omega (arith, p, e)

-- the bits of the product from bit k on
bits_are : (k odd by : ℕ) → 1 ≤ k → (u : Undoes odd k by) → by * odd / 2 ^ k ≡ u.times
bits_are k odd by some u =
    let n : by * odd ≡ u.times * 2 ^ k + 1 = let e = u.is in omega (arith, e) in
    ap (λ m. m / 2 ^ k) n ∙ div-mul-add u.times (2 ^ k) 1 (one_small k some)

-- where bit k of the product is not set, it is 1 modulo 2 ^ (k + 1) already
pub stays_undone : (odd k by : ℕ) → 1 ≤ k → Undoes odd k by → by * odd / 2 ^ k % 2 ≡ 0 → Undoes odd (k + 1) by
stays_undone odd k by some u unset =
    let b = bits_are k odd by some u in
    let t : u.times ≡ 2 * (u.times / 2) = omega (arith, b, unset) in
    let s = u.small in
    record { small = let p = power_more k in omega (arith, s, p); times = u.times / 2; is = rw (power_more k) (halve odd (2 ^ k) (u.times / 2) by u.times t u.is) }

-- where it is set, bit k is set in the factor
pub more_undone : (odd k by : ℕ) → odd % 2 ≡ 1 → 1 ≤ k → Undoes odd k by → by * odd / 2 ^ k % 2 ≡ 1 → Undoes odd (k + 1) (by + 2 ^ k)
more_undone odd k by uneven some u set =
    let b = bits_are k odd by some u in
    let q = u.times / 2 in
    let h = odd / 2 in
    let t : u.times ≡ 2 * q + 1 = omega (arith, b, set) in
    let m : odd ≡ 2 * h + 1 = omega (arith, uneven) in
    let e : by * odd ≡ 1 + 2 ^ k * (2 * q + 1) = u.is ∙ ap (λ n. 1 + 2 ^ k * n) t in
    let s = u.small in
    record { small = let p = power_more k in omega (arith, s, p); times = q + h + 1; is = rw (power_more k) (double h odd (2 ^ k) q by m e) }

pub undone_at_end : (odd by : ℕ) → Undoes odd 32 by → by * odd % 2 ^ 32 ≡ 1
undone_at_end odd by u = let e = u.is in omega (arith, e)

-- what is 1 modulo 2 ^ 32 counts as 1
wraps_to_one : (n : ℕ) → n % 2 ^ 32 ≡ 1 → int_wrap w32 (pos n) ≡ pos 1
unfolding int_wrap
wraps_to_one n is = ap (cast_signed w32) is

-- a number of 32 bits, read as a signed one
pub read_as_signed : (n : ℕ) → n < 2 ^ 32 → cast_signed w32 n ≡ int_wrap w32 (pos n)
unfolding int_wrap
read_as_signed n small = let e : n % 2 ^ 32 ≡ n = omega (arith, small) in ap (cast_signed w32) (sym e)

module _ (m v : ℕ) (undone : v * m % 2 ^ 32 ≡ 1) where
  -- times the number that undoes it, and times the number itself
  back : (z : ℤ) → int_wrap w32 (int_wrap w32 (z *ℤ int_wrap w32 (pos v)) *ℤ pos m) ≡ int_wrap w32 z
  back z =
      int_wrap-mul_left w32 (z *ℤ int_wrap w32 (pos v)) (pos m)
      ∙ sym (int_wrap-mul_left w32 (z *ℤ int_wrap w32 (pos v)) (pos m))
      ∙ ap (λ x. int_wrap w32 (x *ℤ pos m)) (int_wrap-mul_right w32 z (pos v))
      ∙ int_wrap-mul_left w32 (z *ℤ pos v) (pos m)
      ∙ ap (int_wrap w32) (mul_assoc z (pos v) (pos m) ∙ ap (λ x. z *ℤ x) (pos-*ℤ-pos v m))
      ∙ sym (int_wrap-mul_right w32 z (pos (v * m)))
      ∙ ap (λ x. int_wrap w32 (z *ℤ x)) (wraps_to_one (v * m) undone)
      ∙ ap (int_wrap w32) (times_one z)

  -- the token whose number is the sample less offset and prediction, times the number that undoes the multiplier
  pub is_only_token : (leaf : Leaf) (predicted sample : ℤ) (token : ℕ) → leaf.multiplier ≡ m → m % 2 ≡ 1 → FitsSigned w32 sample → token < 2 ^ 32 →
      unpack token ≡ int_wrap w32 (int_wrap w32 (sample -ℤ leaf.offset -ℤ predicted) *ℤ int_wrap w32 (pos v)) → IsTokenOf leaf predicted sample token
  is_only_token leaf predicted sample token factor odd fits small is =
      let c : ℤ = sample -ℤ leaf.offset -ℤ predicted in
      let o : ℤ = leaf.offset +ℤ predicted in
      let whole : c +ℤ o ≡ sample = omega (arith, ints) in
      let stands : sample_of w32 leaf predicted token ≡ sample =
      ap (λ n. int_wrap w32 (unpack token *ℤ pos n +ℤ leaf.offset +ℤ predicted)) factor
      ∙ ap (int_wrap w32) (+ℤ_assoc (unpack token *ℤ pos m) leaf.offset predicted)
      ∙ sym (int_wrap-add_left w32 (unpack token *ℤ pos m) o)
      ∙ ap (λ u. int_wrap w32 (int_wrap w32 (u *ℤ pos m) +ℤ o)) is
      ∙ ap (λ z. int_wrap w32 (z +ℤ o)) (back (int_wrap w32 c) ∙ int_wrap_fits w32 (int_wrap w32 c) (SFits-int_wrap w32 c))
      ∙ readded w32 c o sample whole ∙ int_wrap_fits w32 sample fits in
      let one = each_has_token leaf predicted sample (factor_odd leaf.multiplier factor odd) fits in
      subst (IsTokenOf leaf predicted sample) (sym (one.1.only token small stands)) one.1 where
        factor_odd : (n : ℕ) → n ≡ m → m % 2 ≡ 1 → n % 2 ≡ 1
        factor_odd n same odd = ap (λ k. k % 2) same ∙ odd
