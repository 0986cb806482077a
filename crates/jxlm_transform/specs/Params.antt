-- What an image is read by.
use Rattle.std.specs.Prelude.{◌≡◌, ℕ, ◌+◌, ◌≤◌, ◌^◌, ◌==◌, ◌&&◌, nat_le, List, length, replicate, Bool, true, false, Option}
use Rattle.std.specs.Borrow.{Bor}
use Rattle.std.specs.Global.{Vec}
use Rattle.std.specs.Int.{IsPowerOfTwo}
use Rattle.std.specs.List.{All}
use Rattle.jxlm_predictor.specs.declared.predictor.Predictor.{Predictor}
use Rattle.jxlm_predictor.specs.declared.predictor.Predictor.TheVariants.{Zero}
use Rattle.jxlm_tree.specs.declared.ma.MaConfig.{MaConfig}
use Rattle.jxlm_transform.specs.declared.param.ChannelShift.{ChannelShift}
use Rattle.jxlm_transform.specs.declared.param.ChannelShift.TheVariants.{Shifts}
use Rattle.jxlm_transform.specs.declared.param.GradientSums.{GradientSums}
use Rattle.jxlm_transform.specs.declared.param.GradientSums.TheVariants.{Wrapped, Clamped}
use Rattle.jxlm_transform.specs.declared.param.ModularChannelParams.{ModularChannelParams}
use Rattle.jxlm_transform.specs.declared.param.ModularParams.{ModularParams}
use Rattle.jxlm_transform.specs.declared.param.PaletteTables.{PaletteTables}
use Rattle.jxlm_transform.specs.declared.param.PaletteTables.TheVariants.{OfColours, OfDeltasToo}
use Rattle.jxlm_transform.specs.Shifts.{IsValidShift}

-- a side that a picture may have
abbrev pub IsSide : ℕ → Type 0
IsSide n = n ≤ 2 ^ 30

-- a channel that may be given
abbrev pub IsValidChannel : ModularChannelParams → Type 0
IsValidChannel c = IsSide c.width × IsSide c.height × IsValidShift c.shift

-- a side that the groups of an image may have
abbrev pub IsGroupDim : ℕ → Type 0
IsGroupDim n = (2 ≤ n) × (n ≤ 2 ^ 20) × IsPowerOfTwo n

-- parameters that an image may be read by
pub record IsValidParams {D : Type 0} (p : ModularParams D) : Type 0 where
  pub group_dim : IsGroupDim p.group_dim
  pub bit_depth : p.bit_depth ≤ 32
  pub count : length p.channels.items ≤ 2 ^ 20
  pub channels : All IsValidChannel p.channels.items

-- parameters with these fields
abbrev pub params_of : {D : Type 0} → ℕ → ℕ → Vec ModularChannelParams → Option (Bor (MaConfig D)) → ModularParams D
params_of group_dim bit_depth channels ma_config = record { group_dim = group_dim; bit_depth = bit_depth; channels = channels; ma_config = ma_config }

-- whether the tables of palettes have columns for deltas beside those of the colours
abbrev pub has_deltas : PaletteTables → Bool
has_deltas OfColours = false
has_deltas OfDeltasToo = true

-- how many columns the table of a palette of this number of colours and deltas has
abbrev pub columns : PaletteTables → ℕ → ℕ → ℕ
columns OfColours colours deltas = colours
columns OfDeltasToo colours deltas = colours + deltas

-- predictor 0, whose prediction is 0
abbrev pub is_zero : Predictor → Bool
is_zero Zero = true
is_zero other = false

-- Whether a palette of this number of channels, of deltas and of this predictor clamps an index outside its table to it:
-- by tables of deltas too, if it has one channel, no deltas and predictor 0.
abbrev pub clamps_indices : PaletteTables → ℕ → ℕ → Predictor → Bool
clamps_indices tables channels deltas predictor = has_deltas tables && (channels == 1) && (deltas == 0) && is_zero predictor

-- whether a header may have a colour transform of this kind, which is one of 0 to 73: with tables of deltas up to 41
abbrev pub has_colour_kind : PaletteTables → ℕ → Bool
has_colour_kind OfColours kind = true
has_colour_kind OfDeltasToo kind = nat_le kind 41

-- whether property 9 is clamped where a channel's tree asks for it alone
abbrev pub are_clamped : GradientSums → Bool
are_clamped Wrapped = false
are_clamped Clamped = true

-- a channel with this shift in a picture of these sides
abbrev pub channel_params : ℕ → ℕ → ChannelShift → ModularChannelParams
channel_params width height shift = record { width = width; height = height; shift = shift; palette_tables = OfColours; gradient_sums = Wrapped }

-- the same channel, read by these tables of palettes
abbrev pub with_tables : PaletteTables → ModularChannelParams → ModularChannelParams
with_tables tables p = record p { palette_tables = tables }

-- the same channel, read by these sums
abbrev pub with_sums : GradientSums → ModularChannelParams → ModularChannelParams
with_sums sums p = record p { gradient_sums = sums }

-- n channels as large as a picture of these sides
abbrev pub of_one_size : ℕ → ℕ → ℕ → List ModularChannelParams
of_one_size n width height = replicate n (channel_params width height (Shifts 0))

-- they may be given
abbrev pub OneSizeIsValid : Type 0
OneSizeIsValid = (n width height : ℕ) → IsSide width → IsSide height → All IsValidChannel (of_one_size n width height)

-- and an image of at most 2 ^ 20 of them may be read
abbrev pub OneSizeOfImageIsValid : Type 0 → Type 0
OneSizeOfImageIsValid D =
    (p : ModularParams D) (n width height : ℕ) → p.channels.items ≡ of_one_size n width height → n ≤ 2 ^ 20 → IsSide width → IsSide height →
    IsGroupDim p.group_dim → p.bit_depth ≤ 32 → IsValidParams p

-- a power of two from 2 to 2 ^ 20 is a side of groups
abbrev pub PowersAreGroupDims : Type 0
PowersAreGroupDims = (k : ℕ) → 1 ≤ k → k ≤ 20 → IsGroupDim (2 ^ k)
