-- What can be run forward: transforms but for palettes.
use Rattle.jxlm_transform.specs.ChannelSteps.{Step, RctStep, PaletteStep, SqueezeStep}
use Rattle.jxlm_chain.specs.Undo.{Undo, UndoRct, UndoPalette, UndoSqueeze}

-- it undoes no palette
abbrev pub UndoesNoPalette : Undo → Type 0
UndoesNoPalette (UndoRct kind regions) = Unit {0}
UndoesNoPalette (UndoPalette t table index regions) = ⊥
UndoesNoPalette (UndoSqueeze horizontal r) = Unit {0}

-- a step that is no palette
abbrev pub IsNoPalette : Step → Type 0
IsNoPalette (RctStep t) = Unit {0}
IsNoPalette (PaletteStep t) = ⊥
IsNoPalette (SqueezeStep t) = Unit {0}
