-- A row undone pair by pair.
use Rattle.std.proofs.Common.{◌≡◌, ℕ, suc, ◌+◌, ◌-◌, ◌*◌, ◌/◌, ◌<◌, ◌≤◌, inl, inr, List, length, set, ℤ, FitsSigned, sym, ap, ◌∙◌, subst, arith}
use Rattle.std.specs.Int.{Width}
use Rattle.std.proofs.Math.ListN.{length-set}
use Rattle.std.proofs.lemmas.Bool.{cases_lt}
use Rattle.jxlm_lanes.specs.Squeeze.{averages, AreSamples}
use Rattle.jxlm_lanes.specs.Pairs.{number_at, first_in, before_in, IsUnsqueezed}
use Rattle.jxlm_lanes.proofs.NumberAt.{number_set_same, number_set_other}

module _ {S : Type 0} (f : S → ℤ) (w : Width) (n : ℕ) (code : ℕ → ℤ) where
  -- the first k pairs are undone
  pub record RowSoFar (row : List S) (k : ℕ) : Type 0 where
    pub first : (j : ℕ) → j < k → number_at f row (2 * j) ≡ first_in w n code j
    pub second : (j : ℕ) → j < k → number_at f row (2 * j + 1) ≡ before_in w n code (suc j)
    pub averages_fit : (j : ℕ) → j < k → FitsSigned w (code j)
    pub residuals_fit : (j : ℕ) → j < k → FitsSigned w (code (averages n + j))

  pub row_none : (row : List S) → RowSoFar row 0
  row_none row = record { first = λ j h. absurd (omega arith); second = λ j h. absurd (omega arith); averages_fit = λ j h. absurd (omega arith); residuals_fit = λ j h. absurd (omega arith) }

  below_next : (P : ℕ → Type 0) (k : ℕ) → ((j : ℕ) → j < k → P j) → P k → (j : ℕ) → j < k + 1 → P j
  below_next P k h p j lt = elim (cases_lt j k) [ inl l ↦ h j l | inr g ↦ let e : k ≡ j = omega arith in subst P e p ]

  pub row_more : (row : List S) (k : ℕ) (a b : S) → length row ≡ n → k < n / 2 → f a ≡ first_in w n code k → f b ≡ before_in w n code (suc k) →
      FitsSigned w (code k) → FitsSigned w (code (averages n + k)) → RowSoFar row k → RowSoFar (set (set row (2 * k) a) (2 * k + 1) b) (k + 1)
  row_more row k a b len h ea eb fa fr r =
      let one : List S = set row (2 * k) a in
      let len' = length-set row (2 * k) a in
      record {
        first = below_next (λ j. number_at f (set one (2 * k + 1) b) (2 * j) ≡ first_in w n code j) k
            (λ j lt. number_set_other f one (2 * k + 1) (2 * j) b (omega arith) ∙ number_set_other f row (2 * k) (2 * j) a (omega arith) ∙ r.first j lt)
            (number_set_other f one (2 * k + 1) (2 * k) b (omega arith) ∙ number_set_same f row (2 * k) a (omega arith) ∙ ea);
        second = below_next (λ j. number_at f (set one (2 * k + 1) b) (2 * j + 1) ≡ before_in w n code (suc j)) k
            (λ j lt. number_set_other f one (2 * k + 1) (2 * j + 1) b (omega arith) ∙ number_set_other f row (2 * k) (2 * j + 1) a (omega arith) ∙ r.second j lt)
            (number_set_same f one (2 * k + 1) b (omega arith) ∙ eb);
        averages_fit = below_next (λ j. FitsSigned w (code j)) k r.averages_fit fa;
        residuals_fit = below_next (λ j. FitsSigned w (code (averages n + j))) k r.residuals_fit fr;
      }

  fit_all : (row : List S) → RowSoFar row (n / 2) → (n / 2 < averages n → FitsSigned w (code (n / 2))) → AreSamples w n code
  fit_all row r last i h =
      elim (cases_lt i (n / 2)) [
        | inl lt ↦ r.averages_fit i lt
        | inr ge ↦
            elim (cases_lt i (averages n)) [
              | inl l ↦ let e : n / 2 ≡ i = omega arith in subst (λ k. FitsSigned w (code k)) e (last (omega arith))
              | inr g ↦ let e : averages n + (i - averages n) ≡ i = omega arith in subst (λ k. FitsSigned w (code k)) e (r.residuals_fit (i - averages n) (omega arith))
            ]
      ]

  -- all pairs are undone, and there is no single sample
  pub row_even : (row : List S) → averages n ≤ n / 2 → RowSoFar row (n / 2) → IsUnsqueezed w n code (number_at f row) × AreSamples w n code
  row_even row even r = (record { first = r.first; second = r.second; single = λ h. absurd (omega arith) }, fit_all row r (λ h. absurd (omega arith)))

  -- all pairs are undone, and the single sample is written
  pub row_odd : (row : List S) (v : S) (i : ℕ) → i ≡ 2 * (n / 2) → length row ≡ n → n / 2 < averages n → f v ≡ code (n / 2) → FitsSigned w (f v) → RowSoFar row (n / 2) →
      IsUnsqueezed w n code (number_at f (set row i v)) × AreSamples w n code
  row_odd row v i is len odd e fits r = (
    record {
      first = λ j h. number_set_other f row i (2 * j) v (omega arith) ∙ r.first j h;
      second = λ j h. number_set_other f row i (2 * j + 1) v (omega arith) ∙ r.second j h;
      single = λ h. ap (number_at f (set row i v)) (sym is) ∙ number_set_same f row i v (omega arith) ∙ e;
    },
    fit_all row r (λ h. subst (FitsSigned w) e fits),
  )

  -- an empty row
  pub row_empty : (row : List S) → n ≡ 0 → IsUnsqueezed w n code (number_at f row) × AreSamples w n code
  row_empty row e = (record { first = λ j h. absurd (omega arith); second = λ j h. absurd (omega arith); single = λ h. absurd (omega arith) }, λ i h. absurd (omega arith))
