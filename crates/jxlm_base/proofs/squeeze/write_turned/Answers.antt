use Rattle.std.proofs.Common.{◌≡◌, ℕ, ◌+◌, ◌*◌, ◌<◌, length, arith, ◌∙◌, refl}
use Rattle.std.specs.Prelude.{Option, slice_get}
use Rattle.jxlm_base.specs.Subgrid.{whole}
use Rattle.jxlm_base.proofs.RowWrites.{outside_none, lines_outside, lines_written}
use Rattle.jxlm_base.proofs.squeeze.write_turned.Goals as goal

pub loop-j-init : goal.loop-j-init
loop-j-init g c =
    let s = c.args.subgrid.now in
    record {
      len = refl;
      place = record { loan = refl; at = record { left = refl; top = refl; columns = refl; rows = refl } };
      cells = outside_none s.x (s.y + c.args.y) s.width 0 (whole s) s.full;
      written = λ j i p q. absurd (omega arith);
    }

pub turn_back-requires-clause-room : goal.turn_back-requires-clause-room
turn_back-requires-clause-room g c = rw (c.loop-j.invariant.len ∙ c.requires.row) c.requires.room

pub write_cells-requires : goal.write_cells-requires
write_cells-requires g c =
    let at = c.loop-j.invariant.place.at in
    let n = c.turn_back.ensures.len in
    let len = c.loop-j.invariant.len in
    let row = c.requires.row in
    let inside = c.requires.rows_inside in
    let wide = at.columns in
    let high = at.rows in record { columns = omega (arith, n, len, row, wide); in_rows = omega (arith, high, inside) }

pub loop-j-preserved : goal.loop-j-preserved
loop-j-preserved g c =
    let s = c.args.subgrid.now in
    let y : ℕ = s.y + c.args.y in
    let k : ℕ = c.loop-j.j in
    let n : ℕ = c.args.rows in
    let strip = c.args.strip.now in
    let inv = c.loop-j.invariant in
    let at = inv.place.at in
    let zero : s.x + 0 ≡ s.x = omega arith in
    let assoc : s.y + (c.args.y + k) ≡ s.y + c.args.y + k = omega arith in
    let written = rw (at.left, at.top, zero, assoc) at c.write_cells.ensures.written in
    let vs = c.turn_back.new.row in
    let wide : length c.loop-j.row ≡ s.width = inv.len ∙ c.requires.row in
    let lv : length vs ≡ s.width = c.turn_back.ensures.len ∙ wide in
    let rows = s.rows_inside in
    let inside = c.requires.rows_inside in
    let value : ℕ → ℕ → Option g.row.S.Denot = λ j i. slice_get strip (i * n + n + j) in
    let is : (i : ℕ) → i < s.width → slice_get vs i ≡ value k i = λ i q. c.turn_back.ensures.turned i (omega (arith, wide)) in
    let p = c.write_cells.ensures.place in
    record {
      len = c.turn_back.ensures.len ∙ inv.len;
      place = record { loan = p.loan ∙ inv.place.loan; at = record { left = p.at.left ∙ at.left; top = p.at.top ∙ at.top; columns = p.at.columns ∙ at.columns; rows = p.at.rows ∙ at.rows } };
      cells = lines_outside (whole s) (whole c.loop-j.subgrid) (whole c.write_cells.new.self) s.x y s.width n k value vs s.columns_inside (omega arith) (omega arith) lv is inv.cells written;
      written = lines_written (whole s) (whole c.loop-j.subgrid) (whole c.write_cells.new.self) s.x y s.width n k value vs s.columns_inside (omega arith) (omega arith) lv is inv.cells written inv.written;
    }
