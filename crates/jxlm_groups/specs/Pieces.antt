-- What each part holds of the coded channels (ISO/IEC 18181-1, Modular: global and group sub-bitstreams).
use Rattle.std.specs.Prelude.{◌≡◌, ℕ, ◌+◌, ◌*◌, ◌/◌, ◌%◌, ◌-◌, ◌^◌, min, List, map, get_or, Bool, ◌&&◌, nat_lt, ◌==◌, if◌then◌else◌, unsigned_abs, filter_map, Option, Some, None}
use Rattle.std.specs.List.{enumerate_from}
use Rattle.jxlm_base.specs.Regions.{region}
use Rattle.jxlm_base.specs.declared.subgrid.Region.{Region}
use Rattle.jxlm_transform.specs.Layout.{no_region}
use Rattle.jxlm_transform.specs.Channels.{Channel, ChannelList, infos, regions}
use Rattle.jxlm_transform.specs.declared.channels.PlacedChannel.{PlacedChannel}
use Rattle.jxlm_transform.specs.ChannelSteps.{table_channel}
use Rattle.jxlm_groups.specs.Passes.{Pass}
use Rattle.jxlm_groups.specs.Cutting.{Kind, cell_width, cell_height, columns, rows, global_count, kind_of}
use Rattle.jxlm_groups.specs.declared.part.Kind.TheVariants as kinds
pub use Rattle.jxlm_groups.specs.declared.part.SectionPart.{SectionPart}
use Rattle.jxlm_groups.specs.declared.part.SectionPart.TheVariants as parts

-- Group k's cells of channel n. Groups are numbered by rows, left to right; the last column or row may be narrow.
abbrev pub piece_of_group : ℕ → ℕ → ℕ → Channel → Region
piece_of_group dim k n c =
    let x : ℕ = (k % columns dim c) * cell_width dim c in
    let y : ℕ = (k / columns dim c) * cell_height dim c in
    region n x y (min (cell_width dim c) (c.width - x)) (min (cell_height dim c) (c.height - y))

-- the region, where the channel has this group, and the region has cells
abbrev pub where_some : Bool → Region → Option Region
where_some here r = if here && nat_lt 0 r.width && nat_lt 0 r.height then Some r else None

-- what a part holds of channel n, of a kind: the global part the whole channel, a group of its kind what its cell has
abbrev pub piece_in : ℕ → Kind → SectionPart → ℕ → Channel → Option Region
piece_in dim kinds.Global parts.Global n c = Some (region n 0 0 c.width c.height)
piece_in dim kinds.Lf (parts.Lf k) n c = where_some (nat_lt k (columns dim c * rows dim c)) (piece_of_group dim k n c)
piece_in dim (kinds.Pass q) (parts.Pass p k) n c =
    where_some ((p == q) && nat_lt k (columns dim c * rows dim c)) (piece_of_group dim k n c)
piece_in dim other name n c = None

-- the same of a channel with its number
abbrev pub piece : ℕ → List Pass → ℕ → SectionPart → ℕ × Channel → Option Region
piece dim passes count name p = piece_in dim (kind_of passes count p.0 p.1) name p.0 p.1

-- The regions of a part, channel by channel, in the coded channels: the buffer of each is the number of its channel.
abbrev pub pieces : ℕ → List Pass → ChannelList → SectionPart → List Region
pieces dim passes l name = filter_map (piece dim passes (global_count dim l) name) (enumerate_from 0 l.channels)

-- a region of a region
abbrev pub within : Region → Region → Region
within r p = region r.buffer (r.x + p.x) (r.y + p.y) p.width p.height

-- where pieces of the coded channels lie, whose regions in the store are these
abbrev pub in_store : List Region → List Region → List Region
in_store coded pieces = map (λ p. within (get_or coded p.buffer no_region) p) pieces

-- a group's channel in a region of channel c: of its sides, and of a picture of these, shifted back; its shifts stay
abbrev pub piece_channel : Channel → Region → Channel
piece_channel c r = record c {
  width = r.width;
  height = r.height;
  original_width = r.width * 2 ^ unsigned_abs c.hshift;
  original_height = r.height * 2 ^ unsigned_abs c.vshift;
}

-- the channel that a part has of it: the global part has the coded channel itself
abbrev pub channel_in : SectionPart → Channel → Region → Channel
channel_in parts.Global c r = c
channel_in name c r = piece_channel c r

-- the channels of a part, one for each of its regions
abbrev pub part_channels : ℕ → List Pass → ChannelList → SectionPart → List Channel
part_channels dim passes l name =
    map (λ r. channel_in name (get_or l.channels r.buffer (table_channel 0 0)) r) (pieces dim passes l name)

-- the channels of a part, and where each lies in the store, where the coded channels lie in these regions
pub record ArePiecesOf (dim : ℕ) (passes : List Pass) (l : ChannelList) (coded : List Region) (name : SectionPart) (ps : List PlacedChannel) : Type 0 where
  pub channels : infos ps ≡ part_channels dim passes l name
  pub regions : regions ps ≡ in_store coded (pieces dim passes l name)
