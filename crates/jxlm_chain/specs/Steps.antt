-- The steps of an image's transforms, and what they ask of a store in which they are undone.
use Rattle.std.specs.Prelude.{◌≡◌, List, length}
use Rattle.std.specs.List.{All}
use Rattle.jxlm_base.specs.Grid.{Grid}
use Rattle.jxlm_base.specs.Regions.{Lies, AllLie, LieApart}
use Rattle.jxlm_transform.specs.Params.{IsSide}
use Rattle.jxlm_inverse.specs.Palette.{PaletteLies}
use Rattle.jxlm_inverse.specs.Recoloured.{HaveOneSize}
use Rattle.jxlm_chain.specs.Undo.{Undo, UndoRct, UndoPalette, UndoSqueeze}

module _ {S : Type 0} where
  -- an undoing's regions lie in the store as they must
  abbrev pub CanUndo : List (Grid S) → Undo → Type 0
  CanUndo store (UndoRct kind regions) = (length regions ≡ 3) × AllLie regions store × LieApart regions × HaveOneSize regions
  CanUndo store (UndoPalette t table index regions) = PaletteLies t table index regions store
  CanUndo store (UndoSqueeze horizontal r) = Lies r store

  -- so do those of each
  abbrev pub CanUndoAll : List (Grid S) → List Undo → Type 0
  CanUndoAll store undos = All (CanUndo store) undos

  -- no side of a buffer is above 2 ^ 30
  abbrev pub IsNarrowStore : List (Grid S) → Type 0
  IsNarrowStore store = All (λ g. IsSide g.width × IsSide g.height) store
