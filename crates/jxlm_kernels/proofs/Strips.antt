-- Columns undone pair by pair, several at a time: line 0 of a strip has the first averages, line i + 1 the undone row
-- i.
use Rattle.std.proofs.Common.{◌≡◌, ℕ, suc, ◌+◌, ◌-◌, ◌*◌, ◌/◌, ◌<◌, ◌≤◌, inl, inr, List, length, ℤ, FitsSigned, ap, ◌∙◌, subst, arith}
use Rattle.std.specs.Int.{Width}
use Rattle.std.proofs.Math.Nat.{mul-le-mul_left, mul-le-mul_right}
use Rattle.std.proofs.lemmas.Bool.{cases_lt}
use Rattle.jxlm_lanes.specs.Squeeze.{averages, AreSamples}
use Rattle.jxlm_lanes.specs.Pairs.{number_at, next_in, first_in, before_in, IsUnsqueezed}

-- a line ends before the next one starts
line_end : (a b c : ℕ) → a < b → a * c + c ≤ b * c
line_end a b c h = let m = mul-le-mul_right {m = suc a} {n = b} c (omega arith) in omega arith

pub at_least : (a b : ℕ) → 0 < b → a ≤ a * b
at_least a b h = let m = mul-le-mul_left {m = 1} {n = b} a (omega arith) in omega arith

pub lines_within : (k h c room : ℕ) → k < h / 2 → (h + 1) * c ≤ room → 2 * k * c + 3 * c ≤ room
lines_within k h c room p r = let m = mul-le-mul_right {m = 2 * k + 3} {n = h + 1} c (omega arith) in omega arith

module _ {S : Type 0} (f : S → ℤ) (w : Width) (h c : ℕ) (col : ℕ → ℕ → ℤ) where
  -- the first k pairs are undone
  pub record StripSoFar (strip : List S) (k : ℕ) : Type 0 where
    pub before : (i j : ℕ) → i < k + 1 → j < c → number_at f strip (2 * i * c + j) ≡ before_in w h (col j) i
    pub first : (i j : ℕ) → i < k → j < c → number_at f strip (2 * i * c + c + j) ≡ first_in w h (col j) i
    pub averages_fit : (i j : ℕ) → i < k → j < c → FitsSigned w (col j i)
    pub residuals_fit : (i j : ℕ) → i < k → j < c → FitsSigned w (col j (averages h + i))

  pub strip_none : (strip : List S) → ((j : ℕ) → j < c → number_at f strip (0 + j) ≡ col j 0) → StripSoFar strip 0
  strip_none strip line =
      record {
        before = λ i j p q. let e : 0 ≡ i = omega arith in subst (λ i. number_at f strip (2 * i * c + j) ≡ before_in w h (col j) i) e (let z : 2 * 0 * c + j ≡ 0 + j = omega arith in ap (number_at f strip) z ∙ line j q);
        first = λ i j p q. absurd (omega arith);
        averages_fit = λ i j p q. absurd (omega arith);
        residuals_fit = λ i j p q. absurd (omega arith);
      }

  below_next : (P : ℕ → Type 0) (k : ℕ) → ((j : ℕ) → j < k → P j) → P k → (j : ℕ) → j < k + 1 → P j
  below_next P k h p j lt = elim (cases_lt j k) [ inl l ↦ h j l | inr g ↦ let e : k ≡ j = omega arith in subst P e p ]

  pub strip_more : (old new : List S) (k : ℕ) → ((i : ℕ) → i < 2 * k * c + c → number_at f new i ≡ number_at f old i) →
      ((j : ℕ) → j < c → number_at f new (2 * k * c + c + j) ≡ first_in w h (col j) k) → ((j : ℕ) → j < c → number_at f new (2 * k * c + 2 * c + j) ≡ before_in w h (col j) (suc k)) →
      ((j : ℕ) → j < c → FitsSigned w (col j k)) → ((j : ℕ) → j < c → FitsSigned w (col j (averages h + k))) → StripSoFar old k → StripSoFar new (k + 1)
  strip_more old new k kept first second fa fr s =
      record {
        before = λ i j p q.
            below_next (λ i. number_at f new (2 * i * c + j) ≡ before_in w h (col j) i) (k + 1)
            (λ i lt. let m = mul-le-mul_right {m = 2 * i} {n = 2 * k} c (omega arith) in kept (2 * i * c + j) (omega arith) ∙ s.before i j lt q)
            (let e : 2 * (k + 1) * c + j ≡ 2 * k * c + 2 * c + j = omega arith in let n : suc k ≡ k + 1 = omega arith in ap (number_at f new) e ∙ second j q ∙ ap (before_in w h (col j)) n)
            i p;
        first = λ i j p q.
            below_next (λ i. number_at f new (2 * i * c + c + j) ≡ first_in w h (col j) i) k
            (λ i lt. let m = mul-le-mul_right {m = 2 * i + 2} {n = 2 * k} c (omega arith) in kept (2 * i * c + c + j) (omega arith) ∙ s.first i j lt q)
            (first j q) i p;
        averages_fit = λ i j p q. below_next (λ i. FitsSigned w (col j i)) k (λ i lt. s.averages_fit i j lt q) (fa j q) i p;
        residuals_fit = λ i j p q. below_next (λ i. FitsSigned w (col j (averages h + i))) k (λ i lt. s.residuals_fit i j lt q) (fr j q) i p;
      }

  fit_all : (strip : List S) → StripSoFar strip (h / 2) → (j : ℕ) → j < c → (h / 2 < averages h → FitsSigned w (col j (h / 2))) → AreSamples w h (col j)
  fit_all strip s j q last i p =
      elim (cases_lt i (h / 2)) [
        | inl lt ↦ s.averages_fit i j lt q
        | inr ge ↦
            elim (cases_lt i (averages h)) [
              | inl l ↦ let e : h / 2 ≡ i = omega arith in subst (λ k. FitsSigned w (col j k)) e (last (omega arith))
              | inr g ↦ let e : averages h + (i - averages h) ≡ i = omega arith in subst (λ k. FitsSigned w (col j k)) e (s.residuals_fit (i - averages h) j (omega arith) q)
            ]
      ]

  second_line : (k j : ℕ) → (2 * k + 1) * c + c + j ≡ 2 * suc k * c + j
  second_line k j = omega arith

  -- all pairs are undone, and there is no single row
  pub strip_even : (strip : List S) → averages h ≤ h / 2 → StripSoFar strip (h / 2) → (j : ℕ) → j < c →
      IsUnsqueezed w h (col j) (λ i. number_at f strip (i * c + c + j)) × AreSamples w h (col j)
  strip_even strip even s j q = (
    record {
      first = λ k p. s.first k j p q;
      second = λ k p. ap (number_at f strip) (second_line k j) ∙ s.before (suc k) j (omega arith) q;
      single = λ p. absurd (omega arith);
    },
    fit_all strip s j q (λ p. absurd (omega arith)),
  )

  -- all pairs are undone, and the single row is copied
  pub strip_odd : (strip new : List S) → h / 2 < averages h → StripSoFar strip (h / 2) → ((i : ℕ) → i < h * c → number_at f new i ≡ number_at f strip i) →
      ((j : ℕ) → j < c → number_at f new (h * c + j) ≡ col j (h / 2)) → ((j : ℕ) → j < c → FitsSigned w (col j (h / 2))) → (j : ℕ) → j < c →
      IsUnsqueezed w h (col j) (λ i. number_at f new (i * c + c + j)) × AreSamples w h (col j)
  strip_odd strip new odd s kept copied fits j q =
      let whole : 2 * (h / 2) + 1 ≡ h = omega arith in
      let last : (2 * (h / 2) + 1) * c ≡ h * c = ap (λ n. n * c) whole in (
        record {
          first = λ k p. let m = mul-le-mul_right {m = 2 * k + 2} {n = h} c (omega arith) in kept (2 * k * c + c + j) (omega arith) ∙ s.first k j p q;
          second = λ k p.
              let m = mul-le-mul_right {m = 2 * k + 3} {n = h} c (omega arith) in
              kept ((2 * k + 1) * c + c + j) (omega arith) ∙ ap (number_at f strip) (second_line k j) ∙ s.before (suc k) j (omega arith) q;
          single = λ p. let e : 2 * (h / 2) * c + c + j ≡ h * c + j = omega (arith, last) in ap (number_at f new) e ∙ copied j q;
        },
        fit_all strip s j q (λ p. fits j q),
      )

-- ---- the lines of one pair

module _ {S : Type 0} (f : S → ℤ) (w : Width) (old new averages_line next_line residuals_line : List S) (n start h k next : ℕ) (col : ℕ → ℕ → ℤ)
    (len : length averages_line ≡ n) (em : (j : ℕ) → j < n → number_at f averages_line j ≡ col j k) (ex : (j : ℕ) → j < n → number_at f next_line j ≡ col j next)
    (er : (j : ℕ) → j < n → number_at f residuals_line j ≡ col j (averages h + k)) (is : (code : ℕ → ℤ) → code next ≡ next_in h code k)
    (before : (j : ℕ) → j < n → number_at f old (start + j) ≡ before_in w h (col j) k) where
  pub pair_line : (p : ℤ → ℤ → ℤ → ℤ → ℤ) (from to : ℕ) → to ≡ from →
      ((j : ℕ) → j < length averages_line → number_at f new (from + j) ≡ p (number_at f old (start + j)) (number_at f averages_line j) (number_at f next_line j) (number_at f residuals_line j)) →
      (j : ℕ) → j < n → number_at f new (to + j) ≡ p (before_in w h (col j) k) (col j k) (next_in h (col j) k) (col j (averages h + k))
  pair_line p from to e line j q =
      ap (λ s. number_at f new (s + j)) e ∙ line j (omega arith)
      ∙ ap (λ z. p z (number_at f averages_line j) (number_at f next_line j) (number_at f residuals_line j)) (before j q)
      ∙ ap (λ z. p (before_in w h (col j) k) z (number_at f next_line j) (number_at f residuals_line j)) (em j q)
      ∙ ap (λ z. p (before_in w h (col j) k) (col j k) z (number_at f residuals_line j)) (ex j q ∙ is (col j))
      ∙ ap (p (before_in w h (col j) k) (col j k) (next_in h (col j) k)) (er j q)
