-- Squares that a picture has, and lists of them.
use Rattle.std.specs.Prelude.{ℕ, ◌*◌, ◌<◌, List, map}
use Rattle.std.specs.List.{range_with_len}
use Rattle.jxlm_groups.specs.Areas.{squares, with_area}
use Rattle.jxlm_groups.specs.Cutting.{Kind}
use Rattle.jxlm_groups.specs.Parts.{part_in}
use Rattle.jxlm_groups.specs.Pieces.{SectionPart}
use Rattle.jxlm_groups.specs.declared.area.PartArea.{PartArea}
use Rattle.jxlm_groups.specs.declared.part.SectionPart.TheVariants as parts

-- the picture has the part's square
abbrev pub IsInPicture : ℕ → ℕ → ℕ → SectionPart → Type 0
IsInPicture w h dim parts.Global = Unit {0}
IsInPicture w h dim (parts.Lf k) = k < squares w h (8 * dim)
IsInPicture w h dim (parts.Pass p k) = k < squares w h dim

-- the first n groups of a kind, with their rectangles
abbrev pub first_groups : ℕ → ℕ → ℕ → Kind → ℕ → List PartArea
first_groups w h dim kind n = map (with_area w h dim) (map (part_in kind) (range_with_len 0 n))
