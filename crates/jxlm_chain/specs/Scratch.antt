-- Room for undoing.
use Rattle.std.specs.Prelude.{◌≡◌, ◌+◌, ◌≤◌, ◌&&◌, nat_lt, Bool, true, List, Option, Some, None, get_or, length, max, vec_len}
use Rattle.std.specs.List.{All}
use Rattle.jxlm_base.specs.declared.subgrid.Region.{Region}
use Rattle.jxlm_predictor.specs.Standing.{HasSameRoom, room_of, weights_of}
use Rattle.jxlm_weighted.specs.declared.weights.WpHeader.{WpHeader}
use Rattle.jxlm_predictor.specs.declared.state.PredictorState.{PredictorState}
use Rattle.jxlm_transform.specs.Params.{IsSide}
use Rattle.jxlm_inverse.specs.ColourRows.{HasRoom, KeepsRoom}
use Rattle.jxlm_transform.specs.Layout.{no_region}
use Rattle.jxlm_chain.specs.Undo.{Undo, UndoRct, UndoPalette, UndoSqueeze}
use Rattle.jxlm_chain.specs.declared.scratch.Scratch.{Scratch}

-- no side of the region is above 2 ^ 30
abbrev pub IsNarrow : Region → Type 0
IsNarrow r = IsSide r.width × IsSide r.height

-- a palette's indices and a squeezed region are narrow
abbrev pub IsNarrowUndo : Undo → Type 0
IsNarrowUndo (UndoRct kind regions) = Unit {0}
IsNarrowUndo (UndoPalette t table index regions) = IsNarrow index
IsNarrowUndo (UndoSqueeze horizontal r) = IsNarrow r

-- a region of an undoing, which all its regions with samples are as large as
abbrev pub region_of : Undo → Region
region_of (UndoRct kind regions) = get_or regions 0 no_region
region_of (UndoPalette t table index regions) = index
region_of (UndoSqueeze horizontal r) = r

-- its regions have cells
abbrev pub have_cells : Undo → Bool
have_cells u = nat_lt 0 (region_of u).width && nat_lt 0 (region_of u).height

module _ {S : Type 0} where
  -- the state that predicts for palettes of these weights
  abbrev pub state_for : Option WpHeader → Scratch S → PredictorState S
  state_for None scratch = scratch.plain
  state_for (Some weights) scratch = scratch.weighted

  -- there is room for an undoing of regions with cells: three rows; a state with the palette's weights, and its
  -- regions; a row, and a column with a sample more
  abbrev pub HasRoomForCells : Scratch S → Undo → Type 0
  HasRoomForCells scratch (UndoRct kind regions) = HasRoom scratch.rows (get_or regions 0 no_region).width
  HasRoomForCells scratch (UndoPalette t table index regions) =
      (index.width ≤ room_of (state_for t.wp_header scratch)) × (weights_of (state_for t.wp_header scratch) ≡ t.wp_header) × (length regions ≤ vec_len scratch.members)
  HasRoomForCells scratch (UndoSqueeze horizontal r) = max r.width (r.height + 1) ≤ vec_len scratch.line

  -- there is room for an undoing: regions without cells take none
  abbrev pub HasRoomToUndo : Scratch S → Undo → Type 0
  HasRoomToUndo scratch u = have_cells u ≡ true → HasRoomForCells scratch u

  -- there is room for each undoing
  abbrev pub HasRoomFor : List Undo → Scratch S → Type 0
  HasRoomFor undos scratch = All (HasRoomToUndo scratch) undos

  -- as much room as before, and the same weights
  pub record KeepsScratch (old new : Scratch S) : Type 0 where
    pub rows : KeepsRoom old.rows new.rows
    pub line : vec_len new.line ≡ vec_len old.line
    pub plain : HasSameRoom old.plain new.plain
    pub weighted : HasSameRoom old.weighted new.weighted
    pub members : vec_len new.members ≡ vec_len old.members
