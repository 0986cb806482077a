use Rattle.std.proofs.Common.{◌≡◌, ℕ, ◌+◌, ◌*◌, FitsSigned, arith, ◌∙◌, sym, ap, subst}
use Rattle.std.specs.Int.{Width}
use Rattle.jxlm_base.specs.Grid.{at, place, meanings}
use Rattle.jxlm_base.specs.Subgrid.{whole}
use Rattle.jxlm_lanes.specs.Pairs.{number_at, line_in}
use Rattle.jxlm_base.specs.Inner.Unsqueeze.{row_in}
use Rattle.jxlm_lanes.proofs.NumberAt.{number_same}
use Rattle.jxlm_lanes.proofs.SqueezeLaws.{IsUnsqueezed_same}
use Rattle.jxlm_base.proofs.GridLines.{turned_numbers}
use Rattle.jxlm_base.proofs.squeeze.undo_turned.Goals as goal

pub returns-clause-undone : goal.returns-clause-undone
returns-clause-undone g c j q =
    let f = g.S.Pairs.to_int in
    let w : Width = g.S.Pairs.width in
    let s = c.args.subgrid.now in
    let y : ℕ = c.args.y in
    let n : ℕ = c.args.rows in
    let turned = c.turn_rows.new.turned in
    let strip = c.unsqueeze_strip.new.strip in
    let new = whole c.write_turned.new.subgrid in
    let undone = rw (c.width-width.ensures) at c.unsqueeze_strip.ensures.undone in
    let is : s.y + y + j ≡ s.y + (y + j) = omega arith in
    IsUnsqueezed_same w s.width (line_in f turned 0 n j) (row_in f s (whole s) (y + j)) (turned_numbers f turned (whole s) s.x s.y y n s.width j q c.turn_rows.ensures.turned)
    (λ i. number_at f strip (i * n + n + j)) (row_in f s new (y + j))
    (λ i p. number_same f strip new.cells (i * n + n + j) (place new (s.x + i) (s.y + y + j)) (sym (c.write_turned.ensures.written j i q p)) ∙ ap (λ z. at (meanings f new) (s.x + i) z) is)
    (undone j q)

pub returns-clause-samples : goal.returns-clause-samples
returns-clause-samples g c j q i p =
    let f = g.S.Pairs.to_int in
    let s = c.args.subgrid.now in
    let samples = rw (c.width-width.ensures) at c.unsqueeze_strip.ensures.samples in
    subst (FitsSigned g.S.Pairs.width) (turned_numbers f c.turn_rows.new.turned (whole s) s.x s.y c.args.y c.args.rows s.width j q c.turn_rows.ensures.turned i p) (samples j q i p)
