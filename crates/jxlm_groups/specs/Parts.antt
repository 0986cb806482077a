-- Each coded cell is in one part, and parts share no cell
-- (ISO/IEC 18181-1, frame: groups, LF groups and passes; Modular: global and group sub-bitstreams).
use Rattle.std.specs.Prelude.{◌≡◌, ◌≢◌, ℕ, ◌+◌, ◌*◌, ◌/◌, ◌<◌, ◌↔◌, ◌⊎◌, List, [], ◌∷◌, map, slice_get, Some, Ok, IsTrue, ℤ}
use Rattle.std.specs.List.{AllPairs, All}
use Rattle.jxlm_base.specs.Grid.{Grid, at}
use Rattle.jxlm_base.specs.Outside.{buffer_at}
use Rattle.jxlm_base.specs.Regions.{HasCell, AreApart, LieApart, grid_of}
use Rattle.jxlm_base.specs.declared.subgrid.Region.{Region}
use Rattle.jxlm_transform.specs.Channels.{AreRegionsOf, Channel, ChannelList, image_list}
use Rattle.jxlm_transform.specs.ChannelSteps.{Step, list_after_all}
use Rattle.jxlm_transform.specs.Params.{IsValidChannel, IsGroupDim}
use Rattle.jxlm_transform.specs.Steps.{HasChannels}
use Rattle.jxlm_transform.specs.declared.param.ModularChannelParams.{ModularChannelParams}
use Rattle.jxlm_groups.specs.Passes.{Pass, can_group}
use Rattle.jxlm_groups.specs.Cutting.{Kind, cell_width, cell_height, columns, can_cut, global_count, kind_of}
use Rattle.jxlm_groups.specs.Pieces.{SectionPart, pieces, in_store}
use Rattle.jxlm_groups.specs.declared.part.Kind.TheVariants as kinds
use Rattle.jxlm_groups.specs.declared.part.SectionPart.TheVariants as parts

-- one of the regions has this cell
abbrev pub HaveCell : List Region → ℕ → ℕ → ℕ → Type 0
HaveCell [] n x y = ⊥
HaveCell (r ∷ rs) n x y = HasCell r n x y ⊎ HaveCell rs n x y

-- there is a cell that one of the regions has
pub record HasSome (regions : List Region) : Type 0 where
  pub n : ℕ
  pub x : ℕ
  pub y : ℕ
  pub has : HaveCell regions n x y

-- the group in whose cell column x of row y of a channel lies
abbrev pub group_of : ℕ → Channel → ℕ → ℕ → ℕ
group_of dim c x y = (y / cell_height dim c) * columns dim c + x / cell_width dim c

-- the part that is group k of a kind
abbrev pub part_in : Kind → ℕ → SectionPart
part_in kinds.Global k = parts.Global
part_in kinds.Lf k = parts.Lf k
part_in (kinds.Pass q) k = parts.Pass q k

-- the part to which column x of row y of channel n belongs
abbrev pub part_of : ℕ → List Pass → ChannelList → ℕ → Channel → ℕ → ℕ → SectionPart
part_of dim passes l n c x y = part_in (kind_of passes (global_count dim l) n c) (group_of dim c x y)

-- column x of row y of channel n is a cell of it, and it is channel c
pub record IsCell (l : ChannelList) (n x y : ℕ) (c : Channel) : Type 0 where
  pub channel : slice_get l.channels n ≡ Some c
  pub column : x < c.width
  pub row : y < c.height

-- Each coded cell lies in the regions of its own part, and in those of no other; parts hold coded cells alone; and no
-- two regions of a part are of one channel.
pub record HoldEachCellOnce (dim : ℕ) (passes : List Pass) (l : ChannelList) : Type 0 where
  pub once : (name : SectionPart) (n x y : ℕ) (c : Channel) → IsCell l n x y c →
      HaveCell (pieces dim passes l name) n x y ↔ (name ≡ part_of dim passes l n c x y)
  pub inside : (name : SectionPart) (n x y : ℕ) → HaveCell (pieces dim passes l name) n x y →
      (c : Channel) × IsCell l n x y c
  pub apart : (name : SectionPart) → AllPairs (λ a b. a.buffer ≢ b.buffer) (pieces dim passes l name)

-- Where an image within the limits can be cut, its parts hold each coded cell once.
abbrev pub PartsHoldEachCellOnce : Type 0
PartsHoldEachCellOnce =
    (dim : ℕ) (passes : List Pass) (given : List ModularChannelParams) (steps : List Step) (l : ChannelList) →
    IsGroupDim dim → All IsValidChannel given → All HasChannels steps →
    IsTrue (can_group passes (image_list given).channels) → list_after_all steps (image_list given) ≡ Ok l →
    IsTrue (can_cut dim l) → HoldEachCellOnce dim passes l

-- no region of the one list shares a cell with one of the other
abbrev pub AreAllApart : List Region → List Region → Type 0
AreAllApart rs ss = All (λ s. All (λ r. AreApart r s) rs) ss

-- Where the coded channels lie apart in a store, two parts share no cell of it.
abbrev pub PartsShareNoCell : Type 0
PartsShareNoCell = (dim : ℕ) (passes : List Pass) (l : ChannelList) (coded : List Region) (one other : SectionPart) →
    AreRegionsOf l.channels coded → LieApart coded → one ≢ other →
    AreAllApart (in_store coded (pieces dim passes l one)) (in_store coded (pieces dim passes l other))

module _ (dim : ℕ) (passes : List Pass) (l : ChannelList) where
  -- the grids of a part, in those of the coded channels
  abbrev pub grids_of : SectionPart → List (Grid ℤ) → List (Grid ℤ)
  grids_of name coded = map (grid_of coded) (pieces dim passes l name)

  -- cells of the coded channels that the part does not hold are as before
  pub record KeepsOthers (name : SectionPart) (old new : List (Grid ℤ)) : Type 0 where
    pub cells : (n x y : ℕ) → (HaveCell (pieces dim passes l name) n x y → ⊥) →
        at (buffer_at new n) x y ≡ at (buffer_at old n) x y

-- What changes the cells of one part alone keeps the grids of each other part.
abbrev pub OtherPartsStay : Type 0
OtherPartsStay = (dim : ℕ) (passes : List Pass) (l : ChannelList) (one other : SectionPart) (old new : List (Grid ℤ)) →
    one ≢ other → KeepsOthers dim passes l one old new →
    grids_of dim passes l other new ≡ grids_of dim passes l other old
