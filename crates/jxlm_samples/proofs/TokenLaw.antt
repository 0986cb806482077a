-- Each sample of 32 bits has exactly one token, where the multiplier is odd.
use Rattle.std.proofs.Common.{◌≡◌, ℕ, zero, suc, ◌+◌, ◌*◌, ◌/◌, ◌%◌, ◌^◌, ◌<◌, inl, inr, sym, ap, ◌∙◌, subst, arith, ℤ, pos, ◌+ℤ◌, ◌-ℤ◌, ◌*ℤ◌, FitsSigned}
use Rattle.std.specs.Int.{w32, int_wrap}
use Rattle.std.proofs.lemmas.Int.{ints, int_wrap_fits, SFits-int_wrap, int_wrap-add_left, int_wrap-add_right, int_wrap-mul_left}
use Rattle.std.proofs.lemmas.Bool.{cases_lt}
use Rattle.std.proofs.Math.IntN.{zero-*ℤ, *ℤ_comm, +ℤ_idr, +ℤ_assoc, pos-*ℤ-pos}
use borrow.Author.Differences.{up, down, same_in, product_is}
use Rattle.jxlm_bits.specs.Numbers.{unpack}
use Rattle.jxlm_bits.proofs.Tokens.{token_of, unpack_fits, unpack_one}
use Rattle.jxlm_samples.specs.Coded.{sample_of}
use Rattle.jxlm_samples.specs.Token.{EachHasToken}

-- products of whole numbers, and of powers of 2
pub mul_assoc : (a b c : ℤ) → (a *ℤ b) *ℤ c ≡ a *ℤ (b *ℤ c)
mul_assoc a b c =
    let ab = product_is a b in
    let bc = product_is b c in
    let by = λ (k : ℕ) (m n : ℕ) (e : m ≡ n). ap (λ x. x * k) e in
    let left = product_is (a *ℤ b) c in
    let right = product_is a (b *ℤ c) in
    let ups : up ((a *ℤ b) *ℤ c) ≡ up (a *ℤ (b *ℤ c)) = omega (arith, by (up c) _ _ ab.0, by (down c) _ _ ab.1, by (up a) _ _ bc.0, by (down a) _ _ bc.1) in
    let downs : down ((a *ℤ b) *ℤ c) ≡ down (a *ℤ (b *ℤ c)) = omega (arith, by (down c) _ _ ab.0, by (up c) _ _ ab.1, by (down a) _ _ bc.0, by (up a) _ _ bc.1) in
    same_in _ _ (λ i. ups i + sym downs i)

-- an odd number can be undone modulo 2 ^ k
record Inverse (m k : ℕ) : Type 0 where
  by : ℕ
  times : ℕ
  is : by * m ≡ 1 + 2 ^ k * times

pub double : (h m n q x : ℕ) → m ≡ 2 * h + 1 → x * m ≡ 1 + n * (2 * q + 1) → (x + n) * m ≡ 1 + 2 * n * (q + h + 1)
double h m n q x odd e = let t : n * m ≡ n * (2 * h + 1) = ap (λ z. n * z) odd in omega (arith, e, t)

pub halve : (m n q x t : ℕ) → t ≡ 2 * q → x * m ≡ 1 + n * t → x * m ≡ 1 + 2 * n * q
halve m n q x t h e = let u : n * t ≡ n * (2 * q) = ap (λ z. n * z) h in omega (arith, e, u)

pub power_suc : (k : ℕ) → 2 ^ suc k ≡ 2 * 2 ^ k
power_suc k = omega arith

inverse_more : (m h k : ℕ) → m ≡ 2 * h + 1 → (i : Inverse m k) → i.times % 2 < 2 → Inverse m (suc k)
inverse_more m h k odd i bit =
    let q = i.times / 2 in
    elim (cases_lt (i.times % 2) 1) [
      | inl even ↦ (
          let t : i.times ≡ 2 * q = omega (arith, even) in
          record { by = i.by; times = q; is = rw (power_suc k) (halve m (2 ^ k) q i.by i.times t i.is) })
      | inr uneven ↦ (
          let t : i.times ≡ 2 * q + 1 = omega (arith, uneven, bit) in
          let e : i.by * m ≡ 1 + 2 ^ k * (2 * q + 1) = i.is ∙ ap (λ n. 1 + 2 ^ k * n) t in
          record { by = i.by + 2 ^ k; times = q + h + 1; is = rw (power_suc k) (double h m (2 ^ k) q i.by odd e) })
    ]

inverse : (m h k : ℕ) → m ≡ 2 * h + 1 → Inverse m k
inverse m h zero odd = record { by = 1; times = 2 * h; is = omega (arith, odd) }
inverse m h (suc k) odd = inverse_more m h k odd (inverse m h k odd) (omega arith)

none_times : (b : ℤ) → int_wrap w32 (int_wrap w32 (pos (2 ^ 32)) *ℤ b) ≡ pos 0
unfolding int_wrap
none_times b = ap (int_wrap w32) (zero-*ℤ b)

-- a multiple of 2 ^ 32 counts for nothing
wrap_multiple : (a b : ℤ) → int_wrap w32 (a +ℤ pos (2 ^ 32) *ℤ b) ≡ int_wrap w32 a
wrap_multiple a b =
    let none : int_wrap w32 (pos (2 ^ 32) *ℤ b) ≡ pos 0 = sym (int_wrap-mul_left w32 (pos (2 ^ 32)) b) ∙ none_times b in
    sym (int_wrap-add_right w32 a (pos (2 ^ 32) *ℤ b)) ∙ ap (λ x. int_wrap w32 (a +ℤ x)) none ∙ ap (int_wrap w32) (+ℤ_idr a)

-- a number times an odd one times its inverse
undone : (m v q : ℕ) (u : ℤ) → v * m ≡ 1 + 2 ^ 32 * q → (u *ℤ pos m) *ℤ pos v ≡ u +ℤ pos (2 ^ 32) *ℤ (pos q *ℤ u)
undone m v q u e =
    let f : m * v ≡ 1 + 2 ^ 32 * q = omega (arith, e) in
    let g : pos m *ℤ pos v ≡ pos (1 + 2 ^ 32 * q) = pos-*ℤ-pos m v ∙ ap pos f in
    mul_assoc u (pos m) (pos v) ∙ ap (λ x. u *ℤ x) g ∙ spread u q where
      spread : (u : ℤ) (q : ℕ) → u *ℤ pos (1 + 2 ^ 32 * q) ≡ u +ℤ pos (2 ^ 32) *ℤ (pos q *ℤ u)
      spread u q = omega (arith, ints)

module _ (m v q : ℕ) (e : v * m ≡ 1 + 2 ^ 32 * q) (c : ℤ) where
  -- the number whose sample is z
  abbrev from_sample : ℤ → ℤ
  from_sample z = int_wrap w32 ((z -ℤ c) *ℤ pos v)

  abbrev to_sample : ℤ → ℤ
  to_sample u = int_wrap w32 (u *ℤ pos m +ℤ c)

  from-to : (u : ℤ) → FitsSigned w32 u → from_sample (to_sample u) ≡ u
  from-to u h =
      let y = u *ℤ pos m +ℤ c in
      let back : y +ℤ (pos 0 -ℤ c) ≡ u *ℤ pos m = omega (arith, ints) in
      let turned : int_wrap w32 y -ℤ c ≡ int_wrap w32 y +ℤ (pos 0 -ℤ c) = omega (arith, ints) in
      ap (λ x. int_wrap w32 (x *ℤ pos v)) turned
      ∙ sym (int_wrap-mul_left w32 (int_wrap w32 y +ℤ (pos 0 -ℤ c)) (pos v))
      ∙ ap (λ x. int_wrap w32 (x *ℤ pos v)) (int_wrap-add_left w32 y (pos 0 -ℤ c) ∙ ap (int_wrap w32) back)
      ∙ int_wrap-mul_left w32 (u *ℤ pos m) (pos v)
      ∙ ap (int_wrap w32) (undone m v q u e)
      ∙ wrap_multiple u (pos q *ℤ u)
      ∙ int_wrap_fits w32 u h

  to-from : (z : ℤ) → FitsSigned w32 z → to_sample (from_sample z) ≡ z
  to-from z h =
      let x = z -ℤ c in
      let k = pos (2 ^ 32) *ℤ (pos q *ℤ x) in
      let swap : (x *ℤ pos v) *ℤ pos m ≡ (x *ℤ pos m) *ℤ pos v = mul_assoc x (pos v) (pos m) ∙ ap (λ y. x *ℤ y) (*ℤ_comm (pos v) (pos m)) ∙ sym (mul_assoc x (pos m) (pos v)) in
      let back : x +ℤ k +ℤ c ≡ z +ℤ k = omega (arith, ints) in
      sym (int_wrap-add_left w32 (int_wrap w32 (x *ℤ pos v) *ℤ pos m) c)
      ∙ ap (λ y. int_wrap w32 (y +ℤ c)) (int_wrap-mul_left w32 (x *ℤ pos v) (pos m) ∙ ap (int_wrap w32) (swap ∙ undone m v q x e))
      ∙ int_wrap-add_left w32 (x +ℤ k) c
      ∙ ap (int_wrap w32) back
      ∙ wrap_multiple z (pos q *ℤ x)
      ∙ int_wrap_fits w32 z h

pub each_has_token : EachHasToken
each_has_token leaf predicted sample odd fits =
    let m = leaf.multiplier in
    let i = inverse m (m / 2) 32 (omega (arith, odd)) in
    let c = leaf.offset +ℤ predicted in
    let u = from_sample m i.by i.times i.is c sample in
    let (t, is_u) = token_of u in
    let joined : (x : ℤ) → x *ℤ pos m +ℤ leaf.offset +ℤ predicted ≡ x *ℤ pos m +ℤ c = λ x. +ℤ_assoc (x *ℤ pos m) leaf.offset predicted in
    let is_sample : (token : ℕ) → sample_of w32 leaf predicted token ≡ to_sample m i.by i.times i.is c (unpack token) = λ token. ap (int_wrap w32) (joined (unpack token)) in (
      t,
      record {
        below = (unpack_fits t).0 (subst (FitsSigned w32) (sym is_u) (SFits-int_wrap w32 ((sample -ℤ c) *ℤ pos i.by)));
        stands = is_sample t ∙ ap (to_sample m i.by i.times i.is c) is_u ∙ to-from m i.by i.times i.is c sample fits;
        only = λ other l h.
            let one : unpack other ≡ u = sym (from-to m i.by i.times i.is c (unpack other) ((unpack_fits other).1 l)) ∙ ap (from_sample m i.by i.times i.is c) (sym (is_sample other) ∙ h) in
            unpack_one other t (one ∙ sym is_u);
      },
    )
