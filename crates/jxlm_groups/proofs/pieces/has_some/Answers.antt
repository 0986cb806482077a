use Rattle.std.proofs.Common.{[]}
use Rattle.std.proofs.lemmas.Bool.{ltb-true, lt-ltb}
use Rattle.jxlm_groups.proofs.SomeCells.{cells_of_sides, sides_of_cells}
use Rattle.jxlm_groups.proofs.pieces.has_some.Goals as goal

pub returns-then-piece-gt0 : goal.returns-then-piece-gt0
returns-then-piece-gt0 c =
    let r = c.in-Some.piece in
    rw c.in-Some.is (λ t. cells_of_sides r [] c.if-piece-gt0.true (ltb-true 0 r.height t), λ h. lt-ltb 0 r.height (sides_of_cells r h).1)
