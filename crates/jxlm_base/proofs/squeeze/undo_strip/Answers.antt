use Rattle.std.proofs.Common.{◌≡◌, ℕ, ◌+◌, ◌*◌, ℤ, FitsSigned, arith, ◌∙◌, sym, ap, subst}
use Rattle.std.specs.Int.{Width}
use Rattle.jxlm_base.specs.Grid.{at, place, meanings}
use Rattle.jxlm_base.specs.Subgrid.{whole}
use Rattle.jxlm_lanes.specs.Pairs.{number_at, line_in}
use Rattle.jxlm_base.specs.Inner.Unsqueeze.{column_in}
use Rattle.jxlm_lanes.proofs.NumberAt.{number_same}
use Rattle.jxlm_lanes.proofs.SqueezeLaws.{IsUnsqueezed_same}
use Rattle.jxlm_base.proofs.GridLines.{grid_line_within, grid_line_numbers}
use Rattle.jxlm_base.proofs.squeeze.undo_strip.Goals as goal

pub unsqueeze_strip-requires-clause-inside : goal.unsqueeze_strip-requires-clause-inside
unsqueeze_strip-requires-clause-inside g c =
    let s = c.args.subgrid.now in
    let columns = s.columns_inside in
    let inside = c.requires.columns_inside in
    rw (c.whole_cells.ensures, c.start-start.ensures, c.stride.ensures, c.height.ensures)
    (λ i p. grid_line_within (whole s) s.x s.y c.args.x c.args.columns s.height i s.full (omega arith) s.rows_inside p)

pub returns : goal.returns
returns g c =
    let f = g.S.Pairs.to_int in
    let w : Width = g.S.Pairs.width in
    let s = c.args.subgrid.now in
    let x : ℕ = c.args.x in
    let n : ℕ = c.args.columns in
    let strip = c.unsqueeze_strip.new.strip in
    let new = whole c.write_strip.new.subgrid in
    let line : ℕ → ℕ → ℤ = λ j. line_in f (whole s).cells (s.y * (whole s).width + s.x + x) (whole s).width j in
    let undone = rw (c.whole_cells.ensures, c.start-start.ensures, c.stride.ensures, c.height.ensures) at c.unsqueeze_strip.ensures.undone in
    let samples = rw (c.whole_cells.ensures, c.start-start.ensures, c.stride.ensures, c.height.ensures) at c.unsqueeze_strip.ensures.samples in
    record {
      len = c.unsqueeze_strip.ensures.len;
      place = c.write_strip.ensures.place;
      cells = c.write_strip.ensures.cells;
      undone = λ j q.
          let col : ℕ → ℤ = column_in f s (whole s) (x + j) in
          let is : s.x + x + j ≡ s.x + (x + j) = omega arith in
          IsUnsqueezed_same w s.height (line j) col (λ i p. grid_line_numbers (whole s) s.x s.y x f i j) (λ i. number_at f strip (i * n + n + j)) (column_in f s new (x + j))
          (λ i p. number_same f strip new.cells (i * n + n + j) (place new (s.x + x + j) (s.y + i)) (sym (c.write_strip.ensures.written i j p q)) ∙ ap (λ z. at (meanings f new) z (s.y + i)) is)
          (undone j q);
      samples = λ j q i p. subst (FitsSigned w) (grid_line_numbers (whole s) s.x s.y x f i j) (samples j q i p);
    }
