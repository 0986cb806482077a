-- The parts of an image, in the order in which their sections stand, and the rectangle of the picture that each covers
-- (ISO/IEC 18181-1, frame: groups, LF groups, passes and sections).
use Rattle.std.specs.Prelude.{◌≡◌, ℕ, ◌*◌, ◌/◌, ◌%◌, ◌-◌, ◌≤◌, min, List, [], ◌∷◌, ◌++◌, map, slice_get, Some}
use Rattle.std.specs.List.{flat_map, range_with_len}
use Rattle.std.specs.Int.{div_ceil}
use Rattle.jxlm_transform.specs.Channels.{Channel, ChannelList}
use Rattle.jxlm_groups.specs.Counts.{group_count}
use Rattle.jxlm_groups.specs.Cutting.{Kind, global_count}
use Rattle.jxlm_groups.specs.Parts.{part_in}
use Rattle.jxlm_groups.specs.Passes.{Pass}
use Rattle.jxlm_groups.specs.Pieces.{SectionPart}
use Rattle.jxlm_groups.specs.declared.area.Area.{Area}
use Rattle.jxlm_groups.specs.declared.area.PartArea.{PartArea}
use Rattle.jxlm_groups.specs.declared.part.Kind.TheVariants as kinds
use Rattle.jxlm_groups.specs.declared.part.SectionPart.TheVariants as parts

-- the sides of the picture: those of the first channel's, as all channels have where an image can be cut
abbrev pub picture_of : List Channel → ℕ × ℕ
picture_of [] = (0, 0)
picture_of (c ∷ cs) = (c.original_width, c.original_height)

-- how many squares of this side cover a picture of w columns and h rows (frame: groups)
abbrev pub squares : ℕ → ℕ → ℕ → ℕ
squares w h side = div_ceil w side * div_ceil h side

-- square k of them: by rows, left to right; the last of a row, and those of the last row, may be narrow
abbrev pub square : ℕ → ℕ → ℕ → ℕ → Area
square w h side k =
    let x : ℕ = (k % div_ceil w side) * side in
    let y : ℕ = (k / div_ceil w side) * side in
    record { x = x; y = y; width = min side (w - x); height = min side (h - y) }

-- the rectangle that a part covers: the global part the whole picture, an LF group a square of eight times a group's
-- side, and a group of a pass one of a group's side (frame: groups and LF groups)
abbrev pub area_of : ℕ → ℕ → ℕ → SectionPart → Area
area_of w h dim parts.Global = record { x = 0; y = 0; width = w; height = h }
area_of w h dim (parts.Lf k) = square w h (8 * dim) k
area_of w h dim (parts.Pass p k) = square w h dim k

-- the groups of a kind, by number
abbrev pub groups_by_number : ℕ → List Pass → ChannelList → Kind → List SectionPart
groups_by_number dim passes l kind = map (part_in kind) (range_with_len 0 (group_count dim passes l kind))

-- all parts: the global one, the LF groups, and then the groups of one pass after the other, each by number
-- (frame: order of sections)
abbrev pub parts_of : ℕ → List Pass → ChannelList → List SectionPart
parts_of dim passes l =
    parts.Global ∷ (groups_by_number dim passes l kinds.Lf ++ flat_map (λ p. groups_by_number dim passes l (kinds.Pass p.number)) passes)

-- a part with its rectangle
abbrev pub with_area : ℕ → ℕ → ℕ → SectionPart → PartArea
with_area w h dim part = record { part = part; area = area_of w h dim part }

-- all parts, each with its rectangle
abbrev pub areas_of : ℕ → ℕ → ℕ → List Pass → ChannelList → List PartArea
areas_of w h dim passes l = map (with_area w h dim) (parts_of dim passes l)

-- each coded channel that is cut is of a picture of w columns and h rows
abbrev pub AreOfPicture : ℕ → ℕ → ℕ → ChannelList → Type 0
AreOfPicture w h dim l = (n : ℕ) (c : Channel) → slice_get l.channels n ≡ Some c → global_count dim l ≤ n →
    (c.original_width ≡ w) × (c.original_height ≡ h)
