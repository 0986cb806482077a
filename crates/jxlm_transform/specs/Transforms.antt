-- The transforms of a header, as they stand in the input (ISO/IEC 18181-1, Modular: TransformInfo and SqueezeParams).
use Rattle.std.specs.Prelude.{◌≡◌, ◌⊎◌, ℕ, ◌+◌, ◌≤◌, List, length, slice_get, ok_or, ◌==◌, codes, if◌then◌else◌, Option, Some, None, Ok, Err}
use Rattle.std.specs.List.{All}
use Rattle.jxlm_bits.specs.ErrorKind.{BadEnum, BadRct}
use Rattle.jxlm_bits.specs.Grammar.{Grammar, number, flag, u32, give, fail, either, repeated, ◌>>=◌, from_result}
use Rattle.jxlm_bits.specs.declared.bits.U32Spec.TheVariants.{Const, Offset}
use Rattle.jxlm_predictor.specs.Predictions.{predictors}
use Rattle.jxlm_predictor.specs.declared.predictor.Predictor.{Predictor}
use Rattle.jxlm_predictor.specs.declared.predictor.Predictor.TheVariants.{SelfCorrecting}
use Rattle.jxlm_weighted.specs.declared.weights.WpHeader.{WpHeader}
use Rattle.jxlm_transform.specs.Params.{clamps_indices, columns, has_colour_kind, has_deltas}
use Rattle.jxlm_transform.specs.declared.param.PaletteTables.{PaletteTables}
use Rattle.jxlm_transform.specs.declared.param.PaletteTables.TheVariants.{OfColours, OfDeltasToo}
use Rattle.jxlm_transform.specs.declared.transform.Rct.{Rct}
use Rattle.jxlm_transform.specs.declared.transform.Palette.{Palette}
use Rattle.jxlm_transform.specs.declared.transform.SqueezeParams.{SqueezeParams}
use Rattle.jxlm_transform.specs.declared.transform.TransformInfo.{TransformInfo}
use Rattle.jxlm_transform.specs.declared.transform.TransformInfo.TheVariants as info

-- A transform as it is listed; a squeeze without steps is the default squeeze.
pub data Transform : Type 0 where
  OfRct : Rct → Transform
  OfPalette : Palette → Transform
  OfSqueeze : List SqueezeParams → Transform

-- a transform, seen without its memory
abbrev pub transform_of : TransformInfo → Transform
transform_of (info.Rct t) = OfRct t
transform_of (info.Palette t) = OfPalette t
transform_of (info.Squeeze t) = OfSqueeze t.sp.items

-- the first channel of a transform
abbrev pub begin_channel : Grammar ℕ
begin_channel = u32 (Offset 0 3) (Offset 8 6) (Offset 72 10) (Offset 1096 13)

-- a colour transform: its first channel, and its kind from 0 to 73
abbrev pub rct : Grammar Rct
rct = do
  begin ← begin_channel
  kind ← u32 (Const 6) (Offset 0 2) (Offset 2 4) (Offset 10 6)
  give (record { begin_c = begin; rct_type = kind })

-- one in a header with these tables: it has a kind that the header may have
abbrev pub rct_by : PaletteTables → Grammar Rct
rct_by OfColours = rct
rct_by OfDeltasToo = rct >>= λ t. from_result (if has_colour_kind OfDeltasToo t.rct_type then Ok t else Err BadRct)

-- a predictor's number; 14 and 15 name none
abbrev pub predictor : Grammar Predictor
predictor = do
  n ← number 4
  from_result (ok_or (slice_get predictors n) (BadEnum (codes "MaProperty") n))

-- the weights that a palette of this predictor keeps
abbrev pub weights_for : Predictor → WpHeader → Option WpHeader
weights_for SelfCorrecting weights = Some weights
weights_for other weights = None

-- a palette: its range, how wide its table is by its colours and deltas, the predictor of deltas, whether it clamps indices, and
-- whether implicit colours are of RGB alone
abbrev pub palette_by : PaletteTables → WpHeader → Grammar Palette
palette_by tables weights = do
  begin ← begin_channel
  channels ← u32 (Const 1) (Const 3) (Const 4) (Offset 1 13)
  colours ← u32 (Offset 0 8) (Offset 256 10) (Offset 1280 12) (Offset 5376 16)
  deltas ← u32 (Const 0) (Offset 1 8) (Offset 257 10) (Offset 1281 16)
  predictor ← predictor
  give (record { begin_c = begin; num_c = channels; nb_colours = columns tables colours deltas; nb_deltas = deltas; d_pred = predictor; clamps_indices = clamps_indices tables channels deltas predictor; implicit_rgb = has_deltas tables; wp_header = weights_for predictor weights })

-- by tables of colours alone
abbrev pub palette : WpHeader → Grammar Palette
palette weights = palette_by OfColours weights

-- one squeeze step: its direction, where residuals go, and its range
abbrev pub squeeze_params : Grammar SqueezeParams
squeeze_params = do
  horizontal ← flag
  in_place ← flag
  begin ← begin_channel
  channels ← u32 (Const 1) (Const 2) (Const 3) (Offset 4 4)
  give (record { horizontal = horizontal; in_place = in_place; begin_c = begin; num_c = channels })

-- at most 296 steps; none stands for the default squeeze
abbrev pub squeeze : Grammar (List SqueezeParams)
squeeze = do
  count ← u32 (Const 0) (Offset 1 4) (Offset 9 6) (Offset 41 8)
  repeated count squeeze_params

-- a transform after its two bits of kind; kind 3 has no meaning
abbrev pub transform_by : PaletteTables → WpHeader → Grammar Transform
transform_by tables weights = do
  kind ← number 2
  either (kind == 0) (rct_by tables >>= λ t. give (OfRct t)) (either (kind == 1) (palette_by tables weights >>= λ t. give (OfPalette t))
      (either (kind == 2) (squeeze >>= λ steps. give (OfSqueeze steps)) (fail (BadEnum (codes "TransformId") kind))))

-- by tables of colours alone
abbrev pub transform : WpHeader → Grammar Transform
transform weights = transform_by OfColours weights

-- the ranges of a colour transform that was read
pub record IsRct (t : Rct) : Type 0 where
  pub begin : t.begin_c ≤ 9287
  pub kind : t.rct_type ≤ 73

-- those of a palette
pub record IsPalette (t : Palette) : Type 0 where
  pub begin : t.begin_c ≤ 9287
  pub some_channels : 1 ≤ t.num_c
  pub channels : t.num_c ≤ 8192
  pub colours : t.nb_colours ≤ 70911 + t.nb_deltas
  pub deltas : t.nb_deltas ≤ 66816

-- those of a squeeze step
pub record IsSqueezeParams (t : SqueezeParams) : Type 0 where
  pub begin : t.begin_c ≤ 9287
  pub some_channels : 1 ≤ t.num_c
  pub channels : t.num_c ≤ 19

-- those of a squeeze
pub record IsSqueeze (steps : List SqueezeParams) : Type 0 where
  pub count : length steps ≤ 296
  pub each : All IsSqueezeParams steps

-- a transform whose fields are in the ranges that a header can have
abbrev pub IsTransform : Transform → Type 0
IsTransform (OfRct t) = IsRct t
IsTransform (OfPalette t) = IsPalette t
IsTransform (OfSqueeze steps) = IsSqueeze steps

-- the two kinds that change the list of channels
abbrev pub IsPaletteTransform : Transform → Type 0
IsPaletteTransform (OfPalette t) = Unit {0}
IsPaletteTransform other = ⊥

abbrev pub IsSqueezeTransform : Transform → Type 0
IsSqueezeTransform (OfSqueeze steps) = Unit {0}
IsSqueezeTransform other = ⊥

-- a palette has at least one channel
abbrev pub HasChannels : Transform → Type 0
HasChannels (OfPalette t) = 1 ≤ t.num_c
HasChannels other = Unit {0}

-- a palette keeps no weights, or these
abbrev pub KeepsWeights : WpHeader → Transform → Type 0
KeepsWeights weights (OfPalette t) = (t.wp_header ≡ None) ⊎ (t.wp_header ≡ Some weights)
KeepsWeights weights other = Unit {0}
