-- Channels and their lists (ISO/IEC 18181-1, Modular: channel list).
use Rattle.std.specs.Prelude.{◌≡◌, ℕ, ◌*◌, ◌≤◌, List, length, map, if◌then◌else◌}
use Rattle.std.specs.List.{AllZip, list_any}
use Rattle.jxlm_base.specs.Grid.{Grid, IsFull}
use Rattle.jxlm_base.specs.declared.subgrid.Region.{Region}
use Rattle.jxlm_transform.specs.declared.channels.ModularChannelInfo.{ModularChannelInfo}
use Rattle.jxlm_transform.specs.declared.channels.PlacedChannel.{PlacedChannel}
use Rattle.jxlm_transform.specs.declared.param.ModularChannelParams.{ModularChannelParams}
use Rattle.jxlm_transform.specs.declared.param.GradientSums.{GradientSums}
use Rattle.jxlm_transform.specs.declared.param.GradientSums.TheVariants.{Clamped, Wrapped}
use Rattle.jxlm_transform.specs.declared.param.PaletteTables.{PaletteTables}
use Rattle.jxlm_transform.specs.declared.param.PaletteTables.TheVariants.{OfColours, OfDeltasToo}
use Rattle.jxlm_transform.specs.Params.{IsSide, are_clamped, has_deltas}
use Rattle.jxlm_transform.specs.Shifts as shifts

-- a coded channel: its sides, its picture's, its shifts (a table's are -1); the shift, tables of palettes and sums it came with
abbrev pub Channel : Type 0
Channel = ModularChannelInfo

-- a channel of an image, before any transform
abbrev pub image_channel : ModularChannelParams → Channel
image_channel p = record {
  width = (shifts.shift_size p.shift (p.width, p.height)).0;
  height = (shifts.shift_size p.shift (p.width, p.height)).1;
  original_width = p.width;
  original_height = p.height;
  hshift = (shifts.shifts_of p.shift).0;
  vshift = (shifts.shifts_of p.shift).1;
  original_shift = p.shift;
  palette_tables = p.palette_tables;
  gradient_sums = p.gradient_sums;
}

-- no side of it is above 2 ^ 30
abbrev pub IsNarrow : Channel → Type 0
IsNarrow c = IsSide c.width × IsSide c.height

-- how many samples it has
abbrev pub area : Channel → ℕ
area c = c.width * c.height

-- a grid of these sides, with a value in each cell
pub record HasSides {S : Type 0} (width height : ℕ) (g : Grid S) : Type 0 where
  pub same_width : g.width ≡ width
  pub same_height : g.height ≡ height
  pub full : IsFull g

-- a grid for each channel, of its sides
abbrev pub AreGridsOf : {S : Type 0} → List Channel → List (Grid S) → Type 0
AreGridsOf channels grids = AllZip (λ c g. HasSides c.width c.height g) channels grids

-- a region for each channel, of its sides
abbrev pub AreRegionsOf : List Channel → List Region → Type 0
AreRegionsOf channels regions = AllZip (λ c r. (r.width ≡ c.width) × (r.height ≡ c.height)) channels regions

-- the tables of palettes that a header of these channels has: with deltas where one of the channels asks for them
abbrev pub tables_for : List Channel → PaletteTables
tables_for channels = if list_any (λ c. has_deltas c.palette_tables) channels then OfDeltasToo else OfColours

-- the sums of a table for some of these channels: clamped where one of the channels asks for them
abbrev pub sums_for : List Channel → GradientSums
sums_for channels = if list_any (λ c. are_clamped c.gradient_sums) channels then Clamped else Wrapped

-- channels, the first nb_meta of which hold tables and what became of them
pub record ChannelList : Type 0 where
  pub channels : List Channel
  pub nb_meta : ℕ

-- the list of an image without transforms
abbrev pub image_list : List ModularChannelParams → ChannelList
image_list channels = record { channels = map image_channel channels; nb_meta = 0 }

-- only channels of the list are meta channels
abbrev pub HasItsMeta : ChannelList → Type 0
HasItsMeta l = l.nb_meta ≤ length l.channels

-- placed channels, without where they lie
abbrev pub infos : List PlacedChannel → List Channel
infos ps = map (λ p. p.info) ps

-- where they lie
abbrev pub regions : List PlacedChannel → List Region
regions ps = map (λ p. p.region) ps
