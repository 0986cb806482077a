-- A palette of channels: its table of colours and its indices (ISO/IEC 18181-1, Modular: palette).
use Rattle.std.specs.Prelude.{◌≡◌, ℕ, ◌≤◌, ◌==◌, if◌then◌else◌, ℤ, List, length, map, false, true, None}
use Rattle.std.specs.Int.{Width}
use Rattle.std.specs.List.{All}
use Rattle.jxlm_base.specs.Grid.{Grid, meanings}
use Rattle.jxlm_predictor.specs.declared.predictor.Predictor.{Predictor}
use Rattle.jxlm_predictor.specs.declared.predictor.Predictor.TheVariants.{West, Zero}
use Rattle.jxlm_transform.specs.Channels.{HasSides}
use Rattle.jxlm_transform.specs.declared.transform.Palette.{Palette}
use Rattle.jxlm_inverse.specs.Palette.{IsPaletteOf}

-- the predictor of a palette of this number of channels: without differences none is used, and by predictor 0 decoders would
-- clamp the indices of one channel
abbrev pub plain_predictor : ℕ → Predictor
plain_predictor channels = if channels == 1 then West else Zero

-- a palette of channels from begin on, without differences, as files have it: it clamps no indices
abbrev pub plain_palette : ℕ → ℕ → ℕ → Palette
plain_palette begin channels colours = record { begin_c = begin; num_c = channels; nb_colours = colours; nb_deltas = 0; d_pred = plain_predictor channels; clamps_indices = false; implicit_rgb = true; wp_header = None }

-- This palette, of one to four channels from begin on and at most 70911 colours, makes these channels of the table and the
-- indices, whatever the bit depth; the table has a column for each colour, and a row for each channel.
pub record IsPaletteFor {S : Type 0} (to_int : S → ℤ) (w : Width) (begin : ℕ) (grids : List (Grid S)) (palette : Palette) (table index : Grid S) : Type 0 where
  pub is : palette ≡ plain_palette begin (length grids) table.width
  pub some_channels : 1 ≤ length grids
  pub channels : length grids ≤ 4
  pub colours : table.width ≤ 70911
  pub table_sides : HasSides table.width (length grids) table
  pub index_sides : HasSides index.width index.height index
  pub sides : All (HasSides index.width index.height) grids
  pub image : (depth : ℕ) → IsPaletteOf w depth palette (meanings to_int table) (meanings to_int index) (map (meanings to_int) grids)
