-- Undoings as a program keeps them.
use Rattle.std.specs.Prelude.{◌≡◌, ◌⊎◌, List, map, Option, None}
use Rattle.jxlm_weighted.specs.declared.weights.WpHeader.{WpHeader}
use Rattle.jxlm_chain.specs.Grids.{leader_of, members_of}
use Rattle.jxlm_chain.specs.Undo.{Undo, UndoRct, UndoPalette, UndoSqueeze}
use Rattle.jxlm_chain.specs.declared.undo.Undoing.{Undoing}
use Rattle.jxlm_chain.specs.declared.undo.Undoing.TheVariants.{Colour, Palette, Squeeze}

-- the undoing that a program keeps
abbrev pub undo_of_code : Undoing → Undo
undo_of_code (Colour kind regions) = UndoRct kind regions
undo_of_code (Palette palette table index) = UndoPalette palette table (leader_of index) (members_of index)
undo_of_code (Squeeze horizontal r) = UndoSqueeze horizontal r

-- and a list of them
abbrev pub undos_of : List Undoing → List Undo
undos_of us = map undo_of_code us

-- a palette has no weights, or these
abbrev pub SuitsWeights : Option WpHeader → Undo → Type 0
SuitsWeights weights (UndoRct kind regions) = Unit {0}
SuitsWeights weights (UndoPalette t table index regions) = (t.wp_header ≡ None) ⊎ (t.wp_header ≡ weights)
SuitsWeights weights (UndoSqueeze horizontal r) = Unit {0}
