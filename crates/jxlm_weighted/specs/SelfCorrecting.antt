-- The weighted (self-correcting) predictor (ISO/IEC 18181-1, Modular: self-correcting predictor).
use Rattle.std.specs.Prelude.{ℕ, zero, suc, ◌+◌, ◌-◌, ◌*◌, ◌/◌, ◌%◌, ◌^◌, ◌<◌, ℤ, pos, ◌+ℤ◌, ◌-ℤ◌, ◌*ℤ◌, List, [], ◌∷◌, ◌++◌, length, take, map, zip, fold, sum, slice_index, slice_index_or, unsigned_abs, nat_lt, Bool, not, ◌&&◌, ◌||◌, if◌then◌else◌, Option}
use Rattle.std.specs.Int.{w32, int_wrap, int_shr, int_min, int_max, is_negative}
use Rattle.std.specs.Option.{option_map_or}
use Rattle.std.specs.Ordering.{int_eq}
use Rattle.jxlm_bits.specs.Numbers.{clamp, floor_log2}
use Rattle.jxlm_weighted.specs.Neighbours.{Neighbours, neighbours, column, row}
use Rattle.jxlm_weighted.specs.declared.weights.WpHeader.{WpHeader}

-- What is known of a cell after it: the true error, and the errors of the four sub-predictions, in their order.
pub record Errors : Type 0 where
  pub true_error : ℤ
  pub sub_errors : List ℕ

-- where no cell is
abbrev pub no_errors : Errors
no_errors = record { true_error = pos 0; sub_errors = 0 ∷ 0 ∷ 0 ∷ 0 ∷ [] }

-- What is known around a cell: the true errors at four neighbours, and the error sums of the sub-predictions.
pub record ErrorsNear : Type 0 where
  pub w : ℤ
  pub n : ℤ
  pub nw : ℤ
  pub ne : ℤ
  pub sums : List ℕ

-- The errors of the cells before this one, in row order.
module _ (errors : List Errors) (width : ℕ) where
  -- those of the cell in column x of row y
  abbrev pub errors_at : ℕ → ℕ → Errors
  errors_at x y = slice_index_or errors (y * width + x) no_errors

  -- those above; in row 0 none
  abbrev pub errors_above : ℕ → ℕ → Errors
  errors_above x zero = no_errors
  errors_above x (suc y) = errors_at x y

  -- those to the left; in column 0 none
  abbrev pub errors_left : ℕ → ℕ → Errors
  errors_left zero y = no_errors
  errors_left (suc x) y = errors_at x y

  -- the sum of sub-prediction k's errors around (x, y); in the last column north plus west stands for north east
  abbrev pub error_sum : ℕ → ℕ → ℕ → ℕ
  error_sum x y k =
      let sub : Errors → ℕ = λ e. slice_index e.sub_errors k in
      let n = sub (errors_above x y) in
      let w = sub (errors_left x y) in
      let ne = if nat_lt (x + 1) width then sub (errors_above (x + 1) y) else n + w in
      (sub (errors_above (x - 1) y) + sub (errors_left (x - 1) y) + n + w + ne) % 2 ^ 32

  -- the errors around (x, y); north stands for north west in column 0, and for north east in the last column
  abbrev pub errors_near : ℕ → ℕ → ErrorsNear
  errors_near x y = record {
    w = (errors_left x y).true_error;
    n = (errors_above x y).true_error;
    nw = (errors_above (x - 1) y).true_error;
    ne = (if nat_lt (x + 1) width then errors_above (x + 1) y else errors_above x y).true_error;
    sums = map (error_sum x y) (0 ∷ 1 ∷ 2 ∷ 3 ∷ []);
  }

-- the maximum error: of the true errors at west, north, north west and north east the first that is furthest from 0
abbrev pub greatest : ErrorsNear → ℤ
greatest e = further (further (further e.w e.n) e.nw) e.ne where
  further : ℤ → ℤ → ℤ
  further a b = if nat_lt (unsigned_abs a) (unsigned_abs b) then b else a

-- 2 ^ 24 divided by i, rounded down
abbrev pub reciprocal : ℕ → ℕ
reciprocal i = 2 ^ 24 / i

-- by how many bits an error sum is shifted
abbrev pub shift_of : ℕ → ℕ
shift_of sum = floor_log2 ((sum + 1) / 32)

-- how much a sub-prediction counts whose errors have this sum, where the header gives it w
abbrev pub weight_of : ℕ → ℕ → ℕ
weight_of w sum = 4 + w * reciprocal (sum / 2 ^ shift_of sum + 1) / 2 ^ shift_of sum

-- weights, shifted so that their sum is small
abbrev pub shift_down : List ℕ → List ℕ
shift_down weights = map (λ weight. weight / 2 ^ floor_log2 (sum weights / 16)) weights

-- how much each sub-prediction counts, by its error sum: the four weights, shifted
abbrev pub weights : WpHeader → List ℕ → List ℕ
weights header sums = shift_down (map (λ (w, sum). weight_of w sum) (zip (header.wp_w0 ∷ header.wp_w1 ∷ header.wp_w2 ∷ header.wp_w3 ∷ []) sums))

-- the sum of the sub-predictions s, each times its weight of v, and half the weights, for rounding
abbrev pub weighted_sum : List ℤ → List ℕ → ℤ
weighted_sum s v = fold (λ total (p, weight). total +ℤ p *ℤ pos weight) (pos (sum v / 2 - 1)) (zip s v)

-- the prediction times 8, before it is clamped: the weighted sum divided by the sum of the weights
abbrev pub weighted_average : List ℤ → List ℕ → ℤ
weighted_average s v = int_shr (weighted_sum s v *ℤ pos (reciprocal (sum v))) 24

-- it is clamped unless the true errors at west, north and north west have one sign and are not all equal
abbrev pub is_clamped : ErrorsNear → Bool
is_clamped e =
    let all_negative = is_negative e.w && is_negative e.n && is_negative e.nw in
    let none_negative = not (is_negative e.w || is_negative e.n || is_negative e.nw) in
    not (all_negative || none_negative) || (int_eq e.w e.n && int_eq e.n e.nw)

-- With the header's weights, at a cell with these neighbours and these errors around it.
module _ (header : WpHeader) (a : Neighbours) (e : ErrorsNear) where
  -- the four sub-predictions times 8
  abbrev pub sub_predictions : List ℤ
  sub_predictions =
      let w = a.w *ℤ pos 8 in
      let n = a.n *ℤ pos 8 in
      (w +ℤ a.ne *ℤ pos 8 -ℤ n)
      ∷ (n -ℤ int_shr ((e.w +ℤ e.n +ℤ e.ne) *ℤ pos header.wp_p1) 5)
      ∷ (w -ℤ int_shr ((e.w +ℤ e.n +ℤ e.nw) *ℤ pos header.wp_p2) 5)
      ∷ (n -ℤ int_shr (e.nw *ℤ pos header.wp_p3a +ℤ e.n *ℤ pos header.wp_p3b +ℤ e.ne *ℤ pos header.wp_p3c
      +ℤ (a.nn *ℤ pos 8 -ℤ n) *ℤ pos header.wp_p3d +ℤ (a.nw *ℤ pos 8 -ℤ w) *ℤ pos header.wp_p3e) 5)
      ∷ []

  -- the prediction times 8: clamped between the minimum and the maximum of west, north and north east
  abbrev pub predicted : ℤ
  predicted =
      let w = a.w *ℤ pos 8 in
      let n = a.n *ℤ pos 8 in
      let ne = a.ne *ℤ pos 8 in
      let z = weighted_average sub_predictions (weights header e.sums) in
      if is_clamped e then clamp (int_min (int_min n w) ne) (int_max (int_max n w) ne) z else z

-- what is known of the cell after the samples once it has this sample; errors are those of the cells before it
abbrev pub errors_after : WpHeader → List ℤ → ℕ → List Errors → ℤ → Errors
errors_after header samples width errors sample =
    let a = neighbours samples width in
    let e = errors_near errors width (column samples width) (row samples width) in
    record {
      true_error = int_wrap w32 (predicted header a e -ℤ sample *ℤ pos 8);
      sub_errors = map (λ s. (unsigned_abs (s -ℤ sample *ℤ pos 8) + 3) / 8 % 2 ^ 32) (sub_predictions header a e);
    }

-- The errors of the first i samples: those of each sample follow from the samples before it and from their errors.
abbrev pub errors_of : WpHeader → List ℤ → ℕ → ℕ → List Errors
errors_of header samples width zero = []
errors_of header samples width (suc i) =
    let errors = errors_of header samples width i in
    errors ++ errors_after header (take i samples) width errors (slice_index_or samples i (pos 0)) ∷ []

-- at the cell after the samples: the errors around it,
abbrev pub near : WpHeader → List ℤ → ℕ → ErrorsNear
near header samples width =
    errors_near (errors_of header samples width (length samples)) width (column samples width) (row samples width)

-- the prediction times 8,
abbrev pub self_corrected : WpHeader → List ℤ → ℕ → ℤ
self_corrected header samples width = predicted header (neighbours samples width) (near header samples width)

-- the same before it is clamped,
abbrev pub self_unclamped : WpHeader → List ℤ → ℕ → ℤ
self_unclamped header samples width =
    let e = near header samples width in
    weighted_average (sub_predictions header (neighbours samples width) e) (weights header e.sums)

-- and the maximum error
abbrev pub maximum_error : WpHeader → List ℤ → ℕ → ℤ
maximum_error header samples width = greatest (near header samples width)

-- the weighted prediction times 8, where there are weights for it
abbrev pub weighted_prediction : Option WpHeader → List ℤ → ℕ → ℤ
weighted_prediction weights samples width = option_map_or (λ h. self_corrected h samples width) weights (pos 0)

-- the same before it is clamped
abbrev pub unclamped_correction : Option WpHeader → List ℤ → ℕ → ℤ
unclamped_correction weights samples width = option_map_or (λ h. self_unclamped h samples width) weights (pos 0)

-- property 15: the maximum error, or 0 without weights
abbrev pub error_property : Option WpHeader → List ℤ → ℕ → ℤ
error_property weights samples width = option_map_or (λ h. maximum_error h samples width) weights (pos 0)

-- the weights of a header that was read are in these ranges
pub record IsHeader (header : WpHeader) : Type 0 where
  pub p1 : header.wp_p1 < 32
  pub p2 : header.wp_p2 < 32
  pub p3a : header.wp_p3a < 32
  pub p3b : header.wp_p3b < 32
  pub p3c : header.wp_p3c < 32
  pub p3d : header.wp_p3d < 32
  pub p3e : header.wp_p3e < 32
  pub w0 : header.wp_w0 < 16
  pub w1 : header.wp_w1 < 16
  pub w2 : header.wp_w2 < 16
  pub w3 : header.wp_w3 < 16
