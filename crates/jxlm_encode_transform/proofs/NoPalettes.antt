-- Steps without palettes have undoings without palettes.
use Rattle.std.proofs.Common.{List, [], ◌∷◌}
use Rattle.std.specs.List.{All}
use Rattle.std.proofs.lemmas.List.Elements.{All-append, All-cons, All-head, All-map, All-nil, All-tail}
use Rattle.jxlm_transform.specs.ChannelSteps.{Step, RctStep, PaletteStep, SqueezeStep, range}
use Rattle.jxlm_transform.specs.Layout.{Layout, layout_after}
use Rattle.jxlm_chain.specs.Undo.{UndoRct, UndoSqueeze, undo_of, undo_of_all}
use Rattle.jxlm_encode_transform.specs.Redo.{IsNoPalette, UndoesNoPalette}

no_palette : (s : Step) (l : Layout) → IsNoPalette s → All UndoesNoPalette (undo_of s l)
no_palette (RctStep t) l is = All-cons UndoesNoPalette (UndoRct t.rct_type (range t.begin_c 3 l.regions)) [] tt (All-nil UndoesNoPalette)
no_palette (PaletteStep t) l is = absurd is
no_palette (SqueezeStep t) l is = All-map UndoesNoPalette (UndoSqueeze t.horizontal) (range t.begin_c t.num_c l.regions) (λ i d lt. tt)

-- What undoes steps none of which is a palette undoes no palette.
pub no_palettes : (ss : List Step) (l : Layout) → All IsNoPalette ss → All UndoesNoPalette (undo_of_all ss l)
no_palettes [] l none = All-nil UndoesNoPalette
no_palettes (s ∷ ss) l none =
    All-append UndoesNoPalette (undo_of s l) (undo_of_all ss (layout_after s l)) (no_palette s l (All-head IsNoPalette s ss none))
    (no_palettes ss (layout_after s l) (All-tail IsNoPalette s ss none))
