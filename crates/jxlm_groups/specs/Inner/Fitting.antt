-- Pieces one after another, and their channels, whose sides can be shifted back.
use Rattle.std.specs.Prelude.{◌≡◌, ℕ, ◌*◌, ◌^◌, ◌<◌, unsigned_abs, List, [], ◌++◌, map, drop, Option, filter_map}
use Rattle.std.specs.List.{cons_option, enumerate_from}
use Rattle.jxlm_base.specs.declared.subgrid.Region.{Region}
use Rattle.jxlm_transform.specs.Channels.{Channel, infos, regions}
use Rattle.jxlm_transform.specs.declared.channels.PlacedChannel.{PlacedChannel}
use Rattle.jxlm_groups.specs.Passes.{Pass}
use Rattle.jxlm_groups.specs.Cutting.{Kind}
use Rattle.jxlm_groups.specs.Counts.{maximum, groups_of}
use Rattle.jxlm_groups.specs.Pieces.{SectionPart, channel_in, piece, within}
use Rattle.jxlm_groups.specs.declared.part.SectionPart.TheVariants as parts

-- the region's sides, shifted back as often as the channel's are halved, have at most 32 bits
pub record FitsBack (c : Channel) (r : Region) : Type 0 where
  pub hshift : unsigned_abs c.hshift < 32
  pub vshift : unsigned_abs c.vshift < 32
  pub width : r.width * 2 ^ unsigned_abs c.hshift < 2 ^ 32
  pub height : r.height * 2 ^ unsigned_abs c.vshift < 2 ^ 32

-- what a part other than the global one has of the channel fits
abbrev pub FitsIn : SectionPart → Channel → Region → Type 0
FitsIn parts.Global c r = Unit {0}
FitsIn name c r = FitsBack c r

-- what a part has of channel c, which lies in region r, was added: a piece with its channel, or nothing
pub record Adds (piece : Option Region) (name : SectionPart) (c : Channel) (r : Region) (old new : List PlacedChannel) : Type 0 where
  pub channels : infos new ≡ infos old ++ map (channel_in name c) (cons_option piece [])
  pub regions : regions new ≡ regions old ++ map (within r) (cons_option piece [])

module _ (dim : ℕ) (passes : List Pass) (count : ℕ) where
  -- the maximum of the counts of groups of channels from number n on
  abbrev pub count_from : Kind → ℕ → List Channel → ℕ
  count_from kind n cs = maximum (map (groups_of dim passes count kind) (enumerate_from n (drop n cs)))

  -- the pieces of channels from number n on
  abbrev pub pieces_from : SectionPart → ℕ → List Channel → List Region
  pieces_from name n cs = filter_map (piece dim passes count name) (enumerate_from n (drop n cs))
