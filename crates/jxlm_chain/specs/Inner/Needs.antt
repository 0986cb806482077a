-- How much of a scratch undoings take.
use Rattle.std.specs.Prelude.{◌≡◌, ℕ, ◌+◌, ◌≤◌, true, Option, Some, None, get_or, length, max}
use Rattle.jxlm_weighted.specs.declared.weights.WpHeader.{WpHeader}
use Rattle.jxlm_transform.specs.Params.{IsSide}
use Rattle.jxlm_transform.specs.Layout.{no_region}
use Rattle.jxlm_chain.specs.Scratch.{have_cells}
use Rattle.jxlm_chain.specs.Undo.{Undo, UndoRct, UndoPalette, UndoSqueeze}
use Rattle.jxlm_chain.specs.declared.scratch.Needs.{Needs}

-- how many columns a palette of these weights may have
abbrev pub columns_for : Option WpHeader → Needs → ℕ
columns_for None needs = needs.plain
columns_for (Some weights) needs = needs.weighted

-- the needs of an undoing of regions with cells are among these
abbrev pub CoversCells : Needs → Undo → Type 0
CoversCells needs (UndoRct kind regions) = (get_or regions 0 no_region).width ≤ needs.rows
CoversCells needs (UndoPalette t table index regions) = (index.width ≤ columns_for t.wp_header needs) × (length regions ≤ needs.members)
CoversCells needs (UndoSqueeze horizontal r) = max r.width (r.height + 1) ≤ needs.line

-- the needs of an undoing are among these
abbrev pub Covers : Needs → Undo → Type 0
Covers needs u = have_cells u ≡ true → CoversCells needs u

-- palettes of no more than 2 ^ 30 columns
abbrev pub AreNarrow : Needs → Type 0
AreNarrow needs = IsSide needs.plain × IsSide needs.weighted

-- the larger need of each kind
abbrev pub larger_needs : Needs → Needs → Needs
larger_needs a b = record { rows = max a.rows b.rows; line = max a.line b.line; plain = max a.plain b.plain; weighted = max a.weighted b.weighted; members = max a.members b.members }
