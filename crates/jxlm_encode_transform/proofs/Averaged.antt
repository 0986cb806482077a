-- Averages and residuals of the columns of a strip, line by line.
use Rattle.std.proofs.Common.{◌≡◌, ℕ, ◌+◌, ◌*◌, ◌/◌, ◌-◌, ◌<◌, ◌≤◌, ℤ, ◌-ℤ◌, List, ◌++◌, length, sym, ap, ◌∙◌, subst, arith}
use Rattle.std.specs.Prelude.{nat_lt, if◌then◌else◌, slice_get, slice_range}
use Rattle.std.specs.Int.{Width, int_wrap}
use Rattle.jxlm_base.specs.Grid.{Grid}
use Rattle.jxlm_base.specs.Regions.{region_cell}
use Rattle.jxlm_base.specs.declared.subgrid.Region.{Region}
use Rattle.jxlm_lanes.specs.Squeeze.{average, averages, average_at, sample_before, average_after, squeezed, tendency, difference}
use Rattle.jxlm_base.proofs.Outside.{number_of_row}
use Rattle.jxlm_lanes.proofs.SqueezeLaws.{if_lt, if_ge}
use Rattle.jxlm_encode_transform.specs.Inner.Lines.{number_in}
use Rattle.jxlm_encode_transform.proofs.Numbers.{residual_same}
use Rattle.jxlm_encode_transform.specs.Inner.Squeezed.{AreLines, average_of, residual_of, number_of}
use Rattle.jxlm_encode_transform.proofs.LineSteps.{lines_joined, number_part}

module _ {S : Type 0} (f : S → ℤ) (w : Width) (r : Region) (store : List (Grid S)) where
  -- a row as it was read
  abbrev pub IsRow : List S → ℕ → Type 0
  IsRow vs y = (x : ℕ) → x < r.width → region_cell store r x y ≡ slice_get vs x

  pub row_number : (vs : List S) (x y : ℕ) → x < r.width → IsRow vs y → number_in f vs x ≡ number_of f r store x y
  row_number vs x y p is = sym (number_of_row f store r x y vs (is x p))

  pub pair_average : (first second : List S) (x k : ℕ) → x < r.width → k < r.height / 2 → IsRow first (2 * k) → IsRow second (2 * k + 1) →
      average w (number_in f first x) (number_in f second x) ≡ average_of f w r store x k
  pair_average first second x k p l is_first is_second =
      let row : ℕ → ℤ = number_of f r store x in
      ap (λ z. average w z (number_in f second x)) (row_number first x (2 * k) p is_first) ∙ ap (average w (row (2 * k))) (row_number second x (2 * k + 1) p is_second)
      ∙ sym (if_lt k (r.height / 2) (average w (row (2 * k)) (row (2 * k + 1))) (row (2 * k)) l)

  pub single_average : (line : List S) (x k : ℕ) → x < r.width → r.height / 2 ≤ k → IsRow line (2 * k) → number_in f line x ≡ average_of f w r store x k
  single_average line x k p g is =
      let row : ℕ → ℤ = number_of f r store x in
      row_number line x (2 * k) p is ∙ sym (if_ge k (r.height / 2) (average w (row (2 * k)) (row (2 * k + 1))) (row (2 * k)) g)

  -- lines of averages
  module _ (lines : List S) (are : AreLines f r.width lines (average_of f w r store) (averages r.height)) where
    pub average_in : (line : List S) (x k : ℕ) → x < r.width → k < averages r.height → line ≡ slice_range lines (k * r.width) (k * r.width + r.width) → number_in f line x ≡ average_of f w r store x k
    average_in line x k p l is = ap (λ zs. number_in f zs x) is ∙ number_part f lines (k * r.width) r.width x p ∙ are x k p l

    pub before_first : (line : List S) (x k : ℕ) → x < r.width → k < r.height / 2 → k ≤ 0 → line ≡ slice_range lines (0 * r.width) (0 * r.width + r.width) → number_in f line x ≡ sample_before w r.height (number_of f r store x) k
    before_first line x k p l none is =
        let row : ℕ → ℤ = number_of f r store x in
        let zero : 0 ≡ k = omega (arith, none) in
        average_in line x 0 p (omega (arith, l)) is ∙ ap (average_at w r.height row) zero ∙ sym (if_ge 0 k (row (2 * k - 1)) (average_at w r.height row k) none)

    pub before_others : (line : List S) (x k : ℕ) → x < r.width → 0 < k → IsRow line (2 * k - 1) → number_in f line x ≡ sample_before w r.height (number_of f r store x) k
    before_others line x k p some is =
        let row : ℕ → ℤ = number_of f r store x in
        row_number line x (2 * k - 1) p is ∙ sym (if_lt 0 k (row (2 * k - 1)) (average_at w r.height row k) some)

    pub residual_in : (before own next first second : List S) (x k place : ℕ) → x < r.width → k < r.height / 2 → place < averages r.height →
        ((average : ℕ → ℤ) → average place ≡ (if nat_lt (k + 1) (averages r.height) then average (k + 1) else average k)) →
        number_in f before x ≡ sample_before w r.height (number_of f r store x) k →
        own ≡ slice_range lines (k * r.width) (k * r.width + r.width) → next ≡ slice_range lines (place * r.width) (place * r.width + r.width) →
        IsRow first (2 * k) → IsRow second (2 * k + 1) →
        int_wrap w (difference w (number_in f first x) (number_in f second x) -ℤ tendency (number_in f before x) (number_in f own x) (number_in f next x)) ≡ residual_of f w r store x k
    residual_in before own next first second x k place p l within chosen is_before is_own is_next is_first is_second =
        let row : ℕ → ℤ = number_of f r store x in
        residual_same w (number_in f first x) (number_in f second x) (number_in f before x) (number_in f own x) (number_in f next x)
        (row (2 * k)) (row (2 * k + 1)) (sample_before w r.height row k) (average_at w r.height row k) (average_after w r.height row k)
        is_before (average_in own x k p (omega (arith, l)) is_own) (average_in next x place p within is_next ∙ chosen (average_at w r.height row))
        (row_number first x (2 * k) p is_first) (row_number second x (2 * k + 1) p is_second)

    -- averages, and then residuals
    pub squeezed_lines : (others : List S) → length lines ≡ averages r.height * r.width → AreLines f r.width others (residual_of f w r store) (r.height / 2) →
        AreLines f r.width (lines ++ others) (λ x y. squeezed w r.height (number_of f r store x) y) r.height
    squeezed_lines others long are_residuals =
        let all : averages r.height + r.height / 2 ≡ r.height = omega arith in
        subst (AreLines f r.width (lines ++ others) (λ x y. squeezed w r.height (number_of f r store x) y)) all
        (lines_joined f lines others r.width (averages r.height) (r.height / 2) (λ x y. squeezed w r.height (number_of f r store x) y) (average_of f w r store) (residual_of f w r store) long
        (λ x y p l. if_lt y (averages r.height) (average_of f w r store x y) (residual_of f w r store x (y - averages r.height)) l)
        (λ x y p g l. if_ge y (averages r.height) (average_of f w r store x y) (residual_of f w r store x (y - averages r.height)) g) are are_residuals)
