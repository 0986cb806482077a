-- The channels of a frame as the code gives them.
use Rattle.std.specs.Prelude.{ℕ, List, ◌++◌, map, replicate}
use Rattle.jxlm_transform.specs.Params.{channel_params, with_sums, with_tables}
use Rattle.jxlm_transform.specs.declared.param.ChannelShift.TheVariants.{Shifts}
use Rattle.jxlm_transform.specs.declared.param.GradientSums.TheVariants.{Clamped}
use Rattle.jxlm_transform.specs.declared.param.ModularChannelParams.{ModularChannelParams}
use Rattle.jxlm_transform.specs.declared.param.PaletteTables.TheVariants.{OfDeltasToo}
use Rattle.jxl_image_header.specs.declared.channel.ExtraChannel.{ExtraChannel}

-- a channel of this shift in a picture of these sides; in a file the table of a palette has columns for deltas too, and
-- sums are clamped
abbrev pub in_file : ℕ → ℕ → ℕ → ModularChannelParams
in_file width height shift = with_sums Clamped (with_tables OfDeltasToo (channel_params width height (Shifts shift)))

-- n channels as large as a picture of these sides, and after them these extra channels, each of its own shift
abbrev pub of_file : ℕ → List ExtraChannel → ℕ → ℕ → List ModularChannelParams
of_file n extra width height = replicate n (in_file width height 0) ++ map (λ c. in_file width height c.dim_shift) extra
