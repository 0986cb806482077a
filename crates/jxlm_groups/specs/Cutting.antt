-- How each coded channel is cut: whole, into LF groups, or into the groups of a pass
-- (ISO/IEC 18181-1, frame: groups, LF groups and passes; Modular: global and group sub-bitstreams).
use Rattle.std.specs.Prelude.{ℕ, ◌+◌, ◌*◌, ◌/◌, ◌^◌, List, drop, find, Bool, ◌&&◌, nat_lt, nat_le, if◌then◌else◌, ℤ, pos, int_le, unsigned_abs}
use Rattle.std.specs.List.{list_all, prefix_len}
use Rattle.std.specs.Int.{div_ceil}
use Rattle.std.specs.Option.{option_map_or}
use Rattle.jxlm_transform.specs.Channels.{Channel, ChannelList}
use Rattle.jxlm_groups.specs.Passes.{Pass, holds}
pub use Rattle.jxlm_groups.specs.declared.part.Kind.{Kind}
use Rattle.jxlm_groups.specs.declared.part.Kind.TheVariants as kinds

-- the list of these channels, the first of which are meta channels
abbrev pub list_with : List Channel → ℕ → ChannelList
list_with channels nb_meta = record { channels = channels; nb_meta = nb_meta }

-- no side of a channel is above that of a group
abbrev pub fits_group : ℕ → Channel → Bool
fits_group dim c = nat_le c.width dim && nat_le c.height dim

-- how many channels the global part has: the longest prefix that are meta or fit a group (Modular: global part)
abbrev pub global_count : ℕ → ChannelList → ℕ
global_count dim l = l.nb_meta + prefix_len (fits_group dim) (drop l.nb_meta l.channels)

-- the smaller of the two shifts
abbrev pub least_shift : Channel → ℤ
least_shift c = if int_le c.hshift c.vshift then c.hshift else c.vshift

-- a channel is one of the LF groups: both shifts are 3 or more (Modular: LF group)
abbrev pub is_low_frequency : Channel → Bool
is_low_frequency c = int_le (pos 3) (least_shift c)

-- the number of the first pass that holds the smaller shift of a channel (Modular: the pass of a channel); where none
-- does, 256, which is no pass's number where an image can be cut
abbrev pub pass_of : List Pass → Channel → ℕ
pass_of passes c = option_map_or (λ p. p.number) (find (holds (least_shift c)) passes) 256

-- how channel n, of which the global part has the first count, is held: whole, by LF groups, or by the groups of a pass
abbrev pub kind_of : List Pass → ℕ → ℕ → Channel → Kind
kind_of passes count n c =
    if nat_lt n count then kinds.Global else if is_low_frequency c then kinds.Lf else kinds.Pass (pass_of passes c)

-- the side of a group in samples of the picture: an LF group has eight times that of a group (frame: LF groups)
abbrev pub span : ℕ → Channel → ℕ
span dim c = if is_low_frequency c then 8 * dim else dim

-- the sides of a group's cell in a channel: those of the group, halved as often as the channel is
abbrev pub cell_width : ℕ → Channel → ℕ
cell_width dim c = span dim c / 2 ^ unsigned_abs c.hshift

abbrev pub cell_height : ℕ → Channel → ℕ
cell_height dim c = span dim c / 2 ^ unsigned_abs c.vshift

-- how many groups stand side by side, and how many rows of them there are: as many as cover the picture (frame: groups)
abbrev pub columns : ℕ → Channel → ℕ
columns dim c = div_ceil c.original_width (span dim c)

abbrev pub rows : ℕ → Channel → ℕ
rows dim c = div_ceil c.original_height (span dim c)

-- a group's cell in the channel has both sides
abbrev pub has_cells : ℕ → Channel → Bool
has_cells dim c = nat_lt 0 (cell_width dim c) && nat_lt 0 (cell_height dim c)

-- each channel that is cut is cut into cells with both sides: no shift is too large for the groups
abbrev pub can_cut : ℕ → ChannelList → Bool
can_cut dim l = list_all (has_cells dim) (drop (global_count dim l) l.channels)
