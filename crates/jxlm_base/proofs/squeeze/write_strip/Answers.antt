use Rattle.std.proofs.Common.{◌≡◌, ℕ, ◌+◌, ◌*◌, ◌<◌, length, arith, ◌∙◌, refl, subst}
use Rattle.std.specs.Prelude.{slice_get, slice_range}
use Rattle.jxlm_base.specs.Subgrid.{whole, IsSameOutside}
use Rattle.jxlm_kernels.proofs.Slices.{get-slice_range}
use Rattle.jxlm_base.proofs.RowWrites.{line_within, length-slice_range, outside_none, lines_outside, lines_written}
use Rattle.jxlm_base.proofs.squeeze.write_strip.Goals as goal

pub loop-i-init : goal.loop-i-init
loop-i-init g c =
    let s = c.args.subgrid.now in
    record {
      until = c.height-i-end.ensures;
      place = record { loan = refl; at = record { left = refl; top = refl; columns = refl; rows = refl } };
      cells = outside_none (s.x + c.args.x) s.y c.args.columns 0 (whole s) s.full;
      written = λ i j p q. absurd (omega arith);
    }

pub write_cells-requires : goal.write_cells-requires
write_cells-requires g c =
    let at = c.loop-i.invariant.place.at in
    let until = c.loop-i.invariant.until in
    let end = line_within c.loop-i.i c.args.subgrid.now.height c.args.columns (length c.args.strip.now) (omega arith) c.requires.room in
    let n = length-slice_range c.args.strip.now (c.loop-i.i * c.args.columns + c.args.columns) c.args.columns end in
    let inside = c.requires.columns_inside in
    let wide = at.columns in
    let high = at.rows in record { columns = omega (arith, n, wide, inside); in_rows = omega (arith, high, until) }

pub loop-i-preserved : goal.loop-i-preserved
loop-i-preserved g c =
    let s = c.args.subgrid.now in
    let x : ℕ = s.x + c.args.x in
    let n : ℕ = c.args.columns in
    let h : ℕ = s.height in
    let i : ℕ = c.loop-i.i in
    let strip = c.args.strip.now in
    let inv = c.loop-i.invariant in
    let at = inv.place.at in
    let until = inv.until in
    let below : i < h = omega (arith, until) in
    let end = line_within i h n (length strip) below c.requires.room in
    let lv = length-slice_range strip (i * n + n) n end in
    let written = rw (at.left, at.top) at c.write_cells.ensures.written in
    let columns = s.columns_inside in
    let rows = s.rows_inside in
    let inside = c.requires.columns_inside in
    let p = c.write_cells.ensures.place in
    record {
      until = until;
      place = record { loan = p.loan ∙ inv.place.loan; at = record { left = p.at.left ∙ at.left; top = p.at.top ∙ at.top; columns = p.at.columns ∙ at.columns; rows = p.at.rows ∙ at.rows } };
      cells = lines_outside (whole s) (whole c.loop-i.subgrid) (whole c.write_cells.new.self) x s.y n h i (λ i j. slice_get strip (i * n + n + j)) (slice_range strip (i * n + n) (i * n + n + n)) (omega arith) rows below lv (λ j q. get-slice_range strip (i * n + n) (i * n + n + n) j (omega arith)) inv.cells written;
      written = lines_written (whole s) (whole c.loop-i.subgrid) (whole c.write_cells.new.self) x s.y n h i (λ i j. slice_get strip (i * n + n + j)) (slice_range strip (i * n + n) (i * n + n + n)) (omega arith) rows below lv (λ j q. get-slice_range strip (i * n + n) (i * n + n + n) j (omega arith)) inv.cells written inv.written;
    }

pub returns : goal.returns
returns g c =
    let inv = c.loop-i.invariant in
    let until = inv.until in
    let e : c.loop-i.i ≡ c.args.subgrid.now.height = omega (arith, until) in
    let s = c.args.subgrid.now in
    record {
      place = inv.place;
      cells = subst (λ k. IsSameOutside (s.x + c.args.x) s.y c.args.columns k (whole s) (whole c.loop-i.subgrid)) e inv.cells;
      written = λ i j p q. inv.written i j (omega (arith, e)) q;
    }
