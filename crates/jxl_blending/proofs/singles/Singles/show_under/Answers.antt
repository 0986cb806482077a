use Rattle.std.proofs.Common.{◌≡◌, ◌+◌, ◌*◌, ◌<◌, ◌≤◌, ◌∙◌, refl, rules, arith, length, w32, to_z, of_z}
use Rattle.std.proofs.lemmas.Int.{to_z-of_z}
use Rattle.std.specs.Prelude.{slice_range}
use Rattle.jxlm_base.specs.Grid.{row}
use Rattle.jxlm_base.proofs.RegionRows.{length-part}
use Rattle.jxl_blending.specs.Overlaps.{IsOverlap}
use Rattle.jxl_blending.specs.SingleGrids.{singles_of}
use Rattle.jxl_blending.proofs.BlendedGrids.{fits_row, same_overlap}
use Rattle.jxl_blending.proofs.ShownGrids.{grid_shown, nothing_shown, rows_more, same_cells, values_at}
use Rattle.jxl_blending.proofs.singles.Singles.show_under.Goals as goal

pub returns-then-columns-eq0 : goal.returns-then-columns-eq0
returns-then-columns-eq0 c =
    let ex : to_z w32 (of_z w32 c.args.corner.x) ≡ c.args.corner.x = search (rules, to_z-of_z) in
    let across : IsOverlap c.args.corner.x c.args.width c.args.picture.now.width c.of_sides-columns.result =
    same_overlap (to_z w32 (of_z w32 c.args.corner.x)) c.args.corner.x c.args.width c.args.width c.width.result c.args.picture.now.width c.of_sides-columns.result ex
    refl c.width.ensures.value c.of_sides-columns.ensures in
    nothing_shown c.args.scale c.args.corner.x c.args.corner.y c.of_sides-columns.result c.args.width c.args.height (singles_of c.args.self.now) c.args.picture.now across c.if-columns-eq0.true

pub slice_bounds-values-end : goal.slice_bounds-values-end
slice_bounds-values-end c =
    let some : 0 < c.of_sides-columns.result.count = omega (arith, c.if-columns-eq0.false) in
    let here : 0 < c.of_sides-rows.result.count = omega (arith, c.loop-j-test.true) in
    let left : c.of_sides-columns.result.back + c.of_sides-columns.result.count ≤ c.args.self.now.width = omega (arith, c.of_sides-columns.ensures.in_back some, c.width.ensures.value, c.requires.sides.width) in
    let line : c.of_sides-rows.result.back + c.loop-j.j < c.args.self.now.height = omega (arith, c.of_sides-rows.ensures.in_back here, c.height.ensures.value, c.requires.sides.height, c.loop-j-test.true) in
    let fits = fits_row c.of_sides-columns.result.back c.of_sides-columns.result.count (c.of_sides-rows.result.back + c.loop-j.j) c.args.self.now.width c.args.self.now.height left line in
    rw (c.deref.ensures.value, c.requires.full) fits

pub loop-j-preserved : goal.loop-j-preserved
loop-j-preserved c =
    let columns = c.of_sides-columns.result in
    let rows = c.of_sides-rows.result in
    let cells = c.args.self.now.cells.items in
    let count = c.of_sides-columns.result.count in
    let start = (c.of_sides-rows.result.back + c.loop-j.j) * c.args.self.now.width + c.of_sides-columns.result.back in
    let some : 0 < c.of_sides-columns.result.count = omega (arith, c.if-columns-eq0.false) in
    let here : 0 < c.of_sides-rows.result.count = omega (arith, c.loop-j-test.true) in
    let left : c.of_sides-columns.result.back + c.of_sides-columns.result.count ≤ c.args.picture.now.width = omega (arith, c.of_sides-columns.ensures.in_back some, c.width.ensures.value) in
    let line : c.of_sides-rows.result.back + c.loop-j.j < c.args.picture.now.height = omega (arith, c.of_sides-rows.ensures.in_back here, c.height.ensures.value, c.loop-j-test.true) in
    let fits = fits_row columns.back count (rows.back + c.loop-j.j) c.args.self.now.width c.args.self.now.height (omega (arith, left, c.requires.sides.width)) (omega (arith, line, c.requires.sides.height)) in
    let within : start + count ≤ length c.args.self.now.cells.items = rw c.requires.full fits in
    let mix = same_cells c.args.scale c.deref.result.now cells start count columns.back c.get_row_mut-row.result.now (row c.loop-j.picture (rows.back + c.loop-j.j)) c.show_row.new.row
    c.deref.ensures.value c.get_row_mut-row.ensures.value c.show_row.ensures in
    rows_more c.args.scale columns rows (singles_of c.args.self.now) c.args.picture.now c.loop-j.picture c.loop-j.j c.loop-j.invariant left line (slice_range cells start (start + count)) c.show_row.new.row
    (λ i lt. values_at (singles_of c.args.self.now) c.args.self.now.width (rows.back + c.loop-j.j) columns.back count i refl lt) (length-part cells start count within) mix

pub returns : goal.returns
returns c =
    let ex : to_z w32 (of_z w32 c.args.corner.x) ≡ c.args.corner.x = search (rules, to_z-of_z) in
    let ey : to_z w32 (of_z w32 c.args.corner.y) ≡ c.args.corner.y = search (rules, to_z-of_z) in
    let across : IsOverlap c.args.corner.x c.args.width c.args.picture.now.width c.of_sides-columns.result =
    same_overlap (to_z w32 (of_z w32 c.args.corner.x)) c.args.corner.x c.args.width c.args.width c.width.result c.args.picture.now.width c.of_sides-columns.result ex
    refl c.width.ensures.value c.of_sides-columns.ensures in
    let down : IsOverlap c.args.corner.y c.args.height c.args.picture.now.height c.of_sides-rows.result =
    same_overlap (to_z w32 (of_z w32 c.args.corner.y)) c.args.corner.y c.args.height c.args.height c.height.result c.args.picture.now.height c.of_sides-rows.result ey
    refl c.height.ensures.value c.of_sides-rows.ensures in
    let end : c.loop-j.j ≡ c.of_sides-rows.result.count = omega arith in
    grid_shown c.args.scale c.args.corner.x c.args.corner.y c.of_sides-columns.result c.of_sides-rows.result c.args.width c.args.height (singles_of c.args.self.now) c.args.picture.now c.loop-j.picture across down
    (rw end at c.loop-j.invariant)
