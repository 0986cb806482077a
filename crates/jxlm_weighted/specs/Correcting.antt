-- The errors of the weighted (self-correcting) predictor as the code keeps them, and what it makes of a cell.
use Rattle.std.specs.Prelude.{◌≡◌, ℕ, suc, ◌+◌, ◌*◌, ◌<◌, ◌≤◌, ℤ, List, [], ◌∷◌, map, length, slice_index_or, vec_len, Option, Some, None}
use Rattle.std.specs.Option.{ForSome}
use Rattle.jxlm_weighted.specs.Neighbours.{Neighbours, neighbours}
use Rattle.jxlm_weighted.specs.SelfCorrecting.{Errors, ErrorsNear, no_errors, errors_at, errors_of, greatest, near, self_corrected, maximum_error, sub_predictions}
use Rattle.jxlm_weighted.specs.declared.weights.WpHeader.{WpHeader}
use Rattle.jxlm_weighted.specs.declared.self_correcting.CellErrors.{CellErrors}
use Rattle.jxlm_weighted.specs.declared.self_correcting.Corrector.{Corrector}
use Rattle.jxlm_weighted.specs.declared.self_correcting.Counts.{Counts}
use Rattle.jxlm_weighted.specs.declared.self_correcting.ErrorsAround.{ErrorsAround}
use Rattle.jxlm_weighted.specs.declared.self_correcting.PredictionResult.{PredictionResult}
use Rattle.jxlm_weighted.specs.declared.self_correcting.SubPredictions.{SubPredictions}

-- the four numbers that the code keeps
abbrev pub counts_of : Counts → List ℕ
counts_of c = c.s0 ∷ c.s1 ∷ c.s2 ∷ c.s3 ∷ []

abbrev pub predicted_by : SubPredictions → List ℤ
predicted_by s = s.s0 ∷ s.s1 ∷ s.s2 ∷ s.s3 ∷ []

-- the errors of a cell
abbrev pub cell_errors : CellErrors → Errors
cell_errors e = record { true_error = e.true_error; sub_errors = counts_of e.sub_errors }

-- the errors around a cell
abbrev pub near_of : ErrorsAround → ErrorsNear
near_of e = record { w = e.w; n = e.n; nw = e.nw; ne = e.ne; sums = counts_of e.sums }

-- At (x, y), with the errors of the cells before: the current row up to x, and the row above.
pub record KeepsErrors (width x y : ℕ) (previous current errors : List Errors) : Type 0 where
  pub current_is : (i : ℕ) → i < x → slice_index_or current i no_errors ≡ errors_at errors width i y
  pub previous_is : (i above : ℕ) → i < width → y ≡ suc above → slice_index_or previous i no_errors ≡ errors_at errors width i above

-- at (x, y) the corrector keeps the errors of these samples
pub record CorrectsBy (c : Corrector) (header : WpHeader) (width x y : ℕ) (samples : List ℤ) : Type 0 where
  pub same_width : c.width ≡ width
  pub same_header : c.header ≡ header
  pub keeps : KeepsErrors width x y (map cell_errors c.previous.items) (map cell_errors c.current.items) (errors_of header samples width (length samples))

-- errors are kept where there are weights
abbrev pub Corrects : Option Corrector → Option WpHeader → ℕ → ℕ → ℕ → List ℤ → Type 0
Corrects None None width x y samples = Unit {0}
Corrects None (Some h) width x y samples = ⊥
Corrects (Some c) None width x y samples = ⊥
Corrects (Some c) (Some h) width x y samples = CorrectsBy c h width x y samples

-- it holds at (x, y) with these neighbours, of the corrector's weights, the width and the samples
abbrev pub AtPlace : Corrector → ℕ → ℕ → Neighbours → (WpHeader → ℕ → List ℤ → Type 0) → Type 0
AtPlace c x y around P = (header : WpHeader) (width : ℕ) (samples : List ℤ) → CorrectsBy c header width x y samples →
    length samples ≡ y * width + x → around ≡ neighbours samples width → P header width samples

-- at the cell after (x, y) errors are kept where there are weights
abbrev pub CorrectsAfter : Option Corrector → Option WpHeader → ℕ → ℕ → ℕ → List ℤ → Type 0
CorrectsAfter o weights width x y samples = (x + 1 < width → Corrects o weights width (x + 1) y samples) × (width ≤ x + 1 → Corrects o weights width 0 (y + 1) samples)

-- a corrector's rows hold column x
abbrev pub HoldsColumn : Option Corrector → ℕ → Type 0
HoldsColumn None x = Unit {0}
HoldsColumn (Some c) x = x < c.width

-- a corrector's rows hold n columns
abbrev pub HasRows : Option Corrector → ℕ → Type 0
HasRows o n = ForSome o (λ c. (n ≤ vec_len c.previous) × (n ≤ vec_len c.current))

-- the weights, if there are any
abbrev pub header_of : Option Corrector → Option WpHeader
header_of None = None
header_of (Some c) = Some c.header

-- the weights of the first of two, where it is there, else those of the other
abbrev pub header_of_either : Option Corrector → Option Corrector → Option WpHeader
header_of_either None other = header_of other
header_of_either (Some c) other = Some c.header

-- what was made is what the predictor makes of the cell after the samples
pub record IsMadeBy (r : PredictionResult) (header : WpHeader) (width : ℕ) (samples : List ℤ) : Type 0 where
  pub prediction_is : r.prediction ≡ self_corrected header samples width
  pub errors_are : greatest (near_of r.errors) ≡ maximum_error header samples width
  pub subpred_is : predicted_by r.subpred ≡
      sub_predictions header (neighbours samples width) (near header samples width)

-- it is made where there are weights
abbrev pub IsMade : Option PredictionResult → Option WpHeader → ℕ → List ℤ → Type 0
IsMade None None width samples = Unit {0}
IsMade None (Some h) width samples = ⊥
IsMade (Some r) None width samples = ⊥
IsMade (Some r) (Some h) width samples = IsMadeBy r h width samples
