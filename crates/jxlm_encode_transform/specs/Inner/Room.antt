-- Memory for running transforms forward, in samples.
use Rattle.std.specs.Prelude.{◌≡◌, ℕ, ◌*◌, ◌≤◌, true, List, get_or, max}
use Rattle.std.specs.List.{All}
use Rattle.jxlm_transform.specs.Layout.{no_region}
use Rattle.jxlm_chain.specs.Scratch.{have_cells}
use Rattle.jxlm_chain.specs.Undo.{Undo, UndoRct, UndoPalette, UndoSqueeze}

-- it is room for three rows, or for a row and for a column
abbrev pub HasRoomForCells : ℕ → Undo → Type 0
HasRoomForCells n (UndoRct kind regions) = (get_or regions 0 no_region).width * 3 ≤ n
HasRoomForCells n (UndoPalette t table index regions) = Unit {0}
HasRoomForCells n (UndoSqueeze horizontal r) = max r.width r.height ≤ n

-- regions without cells take none
abbrev pub HasRoom : ℕ → Undo → Type 0
HasRoom n u = have_cells u ≡ true → HasRoomForCells n u

abbrev pub HasRoomForAll : ℕ → List Undo → Type 0
HasRoomForAll n us = All (HasRoom n) us
