use Rattle.std.proofs.Common.{◌≡◌, ◌+◌, length, arith, ◌∙◌}
use Rattle.std.proofs.lemmas.Grind.{common_steps}
use Rattle.jxlm_base.specs.Subgrid.{whole}
use Rattle.jxlm_base.proofs.Undo.{row_undone, row_samples, row_outside}
use Rattle.jxlm_base.proofs.squeeze.undo_row.Goals as goal

pub returns-clause-cells : goal.returns-clause-cells
returns-clause-cells g c =
    let s = c.args.subgrid.now in
    let n : c.width-width.result ≡ s.width = c.width-width.ensures in
    let columns = s.columns_inside in
    let rows = s.rows_inside in
    let in_rows = c.requires.in_rows in
    let left : s.x + 0 ≡ s.x = omega arith in
    let lv : length c.unsqueeze_row.new.row ≡ s.width = grind (arith, common_steps) in
    row_outside g.S.Pairs.to_int g.S.Pairs.width (whole s) (whole c.write_cells.new.self) s.x (s.x + 0) (s.y + c.args.y) s.width c.cells.result.now c.unsqueeze_row.new.row
    left s.full columns (omega arith) (rw n at c.cells.ensures.value) (c.cells.ensures.len ∙ n) lv c.write_cells.ensures.written

pub returns-clause-undone : goal.returns-clause-undone
returns-clause-undone g c =
    let s = c.args.subgrid.now in
    let n : c.width-width.result ≡ s.width = c.width-width.ensures in
    let columns = s.columns_inside in
    let rows = s.rows_inside in
    let in_rows = c.requires.in_rows in
    let left : s.x + 0 ≡ s.x = omega arith in
    let lv : length c.unsqueeze_row.new.row ≡ s.width = grind (arith, common_steps) in
    row_undone g.S.Pairs.to_int g.S.Pairs.width (whole s) (whole c.write_cells.new.self) s.x (s.x + 0) (s.y + c.args.y) s.width c.cells.result.now c.unsqueeze_row.new.row
    left s.full columns (omega arith) (rw n at c.cells.ensures.value) (c.cells.ensures.len ∙ n) lv c.write_cells.ensures.written c.unsqueeze_row.ensures.undone

pub returns-clause-samples : goal.returns-clause-samples
returns-clause-samples g c =
    let s = c.args.subgrid.now in
    let n : c.width-width.result ≡ s.width = c.width-width.ensures in
    let columns = s.columns_inside in
    let rows = s.rows_inside in
    let in_rows = c.requires.in_rows in
    let left : s.x + 0 ≡ s.x = omega arith in
    let lv : length c.unsqueeze_row.new.row ≡ s.width = grind (arith, common_steps) in
    row_samples g.S.Pairs.to_int g.S.Pairs.width (whole s) (whole c.write_cells.new.self) s.x (s.x + 0) (s.y + c.args.y) s.width c.cells.result.now c.unsqueeze_row.new.row
    left s.full columns (omega arith) (rw n at c.cells.ensures.value) (c.cells.ensures.len ∙ n) lv c.write_cells.ensures.written c.unsqueeze_row.ensures.samples
