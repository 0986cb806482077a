use Rattle.std.proofs.Common.{◌≡◌, ◌<◌, ℕ, length, ap, ◌∙◌, refl, subst, arith}
use Rattle.std.specs.Prelude.{map, slice_get}
use Rattle.std.specs.Int.{int_wrap}
use Rattle.jxlm_base.specs.Outside.{SetsRow}
use Rattle.jxlm_base.specs.Regions.{region_cell, store_meanings}
use Rattle.jxlm_base.specs.declared.subgrid.Region.{Region}
use Rattle.jxlm_inverse.specs.Inner.PaletteSteps.{IsSimpleIndex, index_in, table_in}
use Rattle.jxlm_inverse.proofs.PaletteRows.{became, part_ahead, part_fills, part_keeps, part_number}
use Rattle.jxlm_inverse.proofs.palette.look_up_part.Goals as goal

pub look_up-requires-clause-simple : goal.look_up-requires-clause-simple
look_up-requires-clause-simple g c κs within = λ j h.
    let p = c.args.channel in
    let n = length c.args.line.now in
    let indices = c.region_row.result.now in
    let long = c.region_row.ensures.len in
    let wide : c.columns_of-part.result.width ≡ n = ap (λ (r : Region). r.width) c.columns_of-part.ensures in
    let inside : j < n = omega (arith, h, long, wide) in
    let cell = subst (λ r. region_cell c.args.store.now r j c.args.y ≡ slice_get indices j) c.columns_of-part.ensures (c.region_row.ensures.cells j (omega (arith, h, long))) in
    subst (IsSimpleIndex c.args.palette.now) (part_number g.S.Sealed.to_int c.args.store.now p.index c.args.x n c.args.y j indices inside c.requires.columns c.requires.in_rows cell)
    (c.requires.simple j inside)

pub returns-clause-keeps : goal.returns-clause-keeps
returns-clause-keeps g c =
    let vs = map (λ n. g.S.Sealed.from_int (int_wrap g.S.Sealed.width n)) c.look_up.new.line in
    let sets = subst (λ r. SetsRow r c.args.y vs c.args.store.now c.set_row.new.store) c.columns_of-written.ensures c.set_row.ensures in
    part_keeps g.S.Sealed.to_int c.args.palette.now c.args.channel c.args.store.now c.set_row.new.store c.args.x (length c.args.line.now) c.args.y vs c.requires.lies c.requires.columns c.requires.in_rows sets

pub returns-clause-kept : goal.returns-clause-kept
returns-clause-kept g c =
    let p = c.args.channel in
    let ints = store_meanings g.S.Sealed.to_int c.args.store.now in
    let vs = map (λ n. g.S.Sealed.from_int (int_wrap g.S.Sealed.width n)) c.look_up.new.line in
    let sets = subst (λ r. SetsRow r c.args.y vs c.args.store.now c.set_row.new.store) c.columns_of-written.ensures c.set_row.ensures in
    part_ahead g.S.Sealed.to_int c.args.palette.now p c.args.store.now c.set_row.new.store c.args.x (length c.args.line.now) c.args.y vs c.requires.lies c.requires.columns c.requires.in_rows sets
    (table_in p ints) (index_in p ints) (record { table_is = refl; indices = λ i l. refl })

pub returns-clause-fills : goal.returns-clause-fills
returns-clause-fills g c = λ depth.
    let p = c.args.channel in
    let n = length c.args.line.now in
    let indices = c.region_row.result.now in
    let vs = map (λ n. g.S.Sealed.from_int (int_wrap g.S.Sealed.width n)) c.look_up.new.line in
    let long = c.region_row.ensures.len in
    let wide : c.columns_of-part.result.width ≡ n = ap (λ (r : Region). r.width) c.columns_of-part.ensures in
    let sets = subst (λ r. SetsRow r c.args.y vs c.args.store.now c.set_row.new.store) c.columns_of-written.ensures c.set_row.ensures in
    let cells = λ (j : ℕ) (h : j < n). subst (λ r. region_cell c.args.store.now r j c.args.y ≡ slice_get indices j) c.columns_of-part.ensures (c.region_row.ensures.cells j (omega (arith, h, wide))) in
    let simple = λ (j : ℕ) (h : j < n).
    subst (IsSimpleIndex c.args.palette.now) (part_number g.S.Sealed.to_int c.args.store.now p.index c.args.x n c.args.y j indices h c.requires.columns c.requires.in_rows (cells j h)) (c.requires.simple j h) in
    let len = c.look_up.ensures.len in
    let found = λ (j : ℕ) (h : j < n).
    became g.S.Sealed.to_int g.S.Sealed.from_int g.S.Sealed.width g.met.S.Sealed.to_int_from_int c.look_up.new.line j (omega (arith, h, len)) ∙ ap (int_wrap g.S.Sealed.width) (c.look_up.ensures.looked_up j (omega (arith, h, long, wide))) in
    part_fills g.S.Sealed.to_int c.args.palette.now p c.args.store.now c.set_row.new.store c.args.x n c.args.y c.region_row-colours.result.now indices vs c.requires.lies c.requires.columns c.requires.in_rows
    c.region_row-colours.ensures.cells cells g.S.Sealed.width simple found sets depth
