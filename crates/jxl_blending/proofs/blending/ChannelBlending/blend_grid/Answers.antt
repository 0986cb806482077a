use Rattle.std.proofs.Common.{◌≡◌, ◌+◌, ◌*◌, ◌<◌, ◌≤◌, ◌∙◌, refl, rules, arith, length, w32, to_z, of_z}
use Rattle.std.proofs.lemmas.Int.{to_z-of_z}
use Rattle.std.proofs.lemmas.List.{with_items_is}
use Rattle.jxl_blending.specs.Overlaps.{IsOverlap}
use Rattle.jxl_blending.specs.SingleGrids.{singles_of}
use Rattle.jxl_blending.proofs.BlendedGrids.{fits_row, nothing_blended, rows_more, grid_blended, same_overlap}
use Rattle.jxl_blending.proofs.BlendedRows.{same_lists}
use Rattle.jxl_blending.proofs.blending.ChannelBlending.blend_grid.Goals as goal

pub returns-then-columns-eq0 : goal.returns-then-columns-eq0
returns-then-columns-eq0 c =
    let ex : to_z w32 (of_z w32 c.args.corner.x) ≡ c.args.corner.x = search (rules, to_z-of_z) in
    let across : IsOverlap c.args.corner.x c.args.front.samples.now.width c.args.picture.now.width c.of_sides-columns.result =
    same_overlap (to_z w32 (of_z w32 c.args.corner.x)) c.args.corner.x c.width.result c.args.front.samples.now.width c.args.picture.now.width c.args.picture.now.width c.of_sides-columns.result ex
    c.width.ensures.value refl c.of_sides-columns.ensures in
    nothing_blended c.args.self c.args.corner.x c.args.corner.y c.of_sides-columns.result c.args.front.samples.now c.args.front.alpha.now (singles_of c.args.back_alpha.now) (singles_of c.args.picture.now)
    c.requires.full across c.if-columns-eq0.true

pub blend_row-requires-clause-inside : goal.blend_row-requires-clause-inside
blend_row-requires-clause-inside c =
    let some : 0 < c.of_sides-columns.result.count = omega (arith, c.if-columns-eq0.false) in
    let here : 0 < c.of_sides-rows.result.count = omega (arith, c.loop-j-test.true) in
    let left : c.of_sides-columns.result.back + c.of_sides-columns.result.count ≤ c.args.picture.now.width = omega (arith, c.of_sides-columns.ensures.in_back some) in
    let line : c.of_sides-rows.result.back + c.loop-j.j < c.args.picture.now.height = omega (arith, c.of_sides-rows.ensures.in_back here, c.loop-j-test.true) in
    let fits = fits_row c.of_sides-columns.result.back (length c.part-samples.result.now) (c.of_sides-rows.result.back + c.loop-j.j) c.args.picture.now.width c.args.picture.now.height
    (omega (arith, left, c.part-samples.ensures.len)) line in
    rw (c.deref_mut.ensures.value, c.loop-j.invariant.full, c.loop-j.invariant.width, c.loop-j.invariant.height) fits

pub loop-j-preserved : goal.loop-j-preserved
loop-j-preserved c =
    let columns = c.of_sides-columns.result in
    let rows = c.of_sides-rows.result in
    let some : 0 < c.of_sides-columns.result.count = omega (arith, c.if-columns-eq0.false) in
    let left : c.of_sides-columns.result.back + c.of_sides-columns.result.count ≤ c.args.picture.now.width = omega (arith, c.of_sides-columns.ensures.in_back some) in
    let here : 0 < c.of_sides-rows.result.count = omega (arith, c.loop-j-test.true) in
    let line : c.of_sides-rows.result.back + c.loop-j.j < c.args.picture.now.height = omega (arith, c.of_sides-rows.ensures.in_back here, c.loop-j-test.true) in
    let mix = same_lists c.args.self _ c.part-samples.result.now c.part-alpha.result.now c.deref.result.now c.args.back_alpha.now.cells.items c.deref_mut.result.now c.loop-j.picture.cells.items c.blend_row.new.cells
    c.deref.ensures.value c.deref_mut.ensures.value c.blend_row.ensures in
    let long : length c.blend_row.new.cells ≡ c.loop-j.picture.cells.len = c.blend_row.ensures.same ∙ c.deref_mut.ensures.len in
    rw (with_items_is c.loop-j.picture.cells c.blend_row.new.cells long)
    (rows_more c.args.self columns rows c.args.front.samples.now c.args.front.alpha.now (singles_of c.args.back_alpha.now) (singles_of c.args.picture.now) (singles_of c.loop-j.picture) c.loop-j.j c.loop-j.invariant left line
    c.part-samples.result.now c.part-alpha.result.now c.blend_row.new.cells c.part-samples.ensures.cells c.part-alpha.ensures.cells c.requires.back.width c.part-samples.ensures.len mix)

pub returns : goal.returns
returns c =
    let ex : to_z w32 (of_z w32 c.args.corner.x) ≡ c.args.corner.x = search (rules, to_z-of_z) in
    let ey : to_z w32 (of_z w32 c.args.corner.y) ≡ c.args.corner.y = search (rules, to_z-of_z) in
    let across : IsOverlap c.args.corner.x c.args.front.samples.now.width c.args.picture.now.width c.of_sides-columns.result =
    same_overlap (to_z w32 (of_z w32 c.args.corner.x)) c.args.corner.x c.width.result c.args.front.samples.now.width c.args.picture.now.width c.args.picture.now.width c.of_sides-columns.result ex
    c.width.ensures.value refl c.of_sides-columns.ensures in
    let down : IsOverlap c.args.corner.y c.args.front.samples.now.height c.args.picture.now.height c.of_sides-rows.result =
    same_overlap (to_z w32 (of_z w32 c.args.corner.y)) c.args.corner.y c.height.result c.args.front.samples.now.height c.args.picture.now.height c.args.picture.now.height c.of_sides-rows.result ey
    c.height.ensures.value refl c.of_sides-rows.ensures in
    let end : c.loop-j.j ≡ c.of_sides-rows.result.count = omega arith in
    grid_blended c.args.self c.args.corner.x c.args.corner.y c.of_sides-columns.result c.of_sides-rows.result c.args.front.samples.now c.args.front.alpha.now (singles_of c.args.back_alpha.now) (singles_of c.args.picture.now)
    (singles_of c.loop-j.picture) across down (rw end at c.loop-j.invariant)
