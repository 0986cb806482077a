use Rattle.std.proofs.Common.{◌≡◌, ◌-◌, ◌==◌, suc, ℕ, [], not, arith, refl, subst}
use Rattle.std.specs.Prelude.{slice_get}
use Rattle.jxlm_base.specs.Regions.{region_cell}
use Rattle.jxlm_encode_tokens.proofs.Cells.{row_of_region}
use Rattle.jxlm_encode_tokens.proofs.LeafRows.{table_tokens}
use Rattle.jxlm_encode_tokens.proofs.part.row_by_table.Goals as goal

pub table_row-requires-clause-table : goal.table_row-requires-clause-table
table_row-requires-clause-table g c κs within = c.requires.table.gradient

pub table_row-requires-else-y-eq0-clause-table : goal.table_row-requires-else-y-eq0-clause-table
table_row-requires-else-y-eq0-clause-table g c κs within = c.requires.table.gradient

pub returns-then-y-eq0 : goal.returns-then-y-eq0
returns-then-y-eq0 g c =
    let coding = c.args.coding.now in
    let row = c.region_row-row.result.now in
    let has = row_of_region coding c.args.store.now c.args.i c.args.y _ row c.region-region.ensures c.requires.below c.region_row-row.ensures.len c.region_row-row.ensures.cells in
    table_tokens coding c.requires.here.walked.coding c.args.i c.requires.here.channel g.S.Sealed.to_int c.args.store.now c.args.y row has g.S.Sealed.width g.T.TokenForm.form
    [] (λ first. refl) (λ z is. absurd (omega (arith, is, c.if-y-eq0.true))) c.args.table.now c.requires.table (not (g.row.CLAMPED == 0)) c.requires.clamped c.table_row.new.out c.table_row.ensures

pub returns-else-y-eq0 : goal.returns-else-y-eq0
returns-else-y-eq0 g c =
    let coding = c.args.coding.now in
    let store = c.args.store.now in
    let i = c.args.i in
    let row = c.region_row-row.result.now in
    let above = c.region_row.result.now in
    let has = row_of_region coding store i c.args.y _ row c.region-region.ensures c.requires.below c.region_row-row.ensures.len c.region_row-row.ensures.cells in
    let over = λ (z : ℕ) (is : c.args.y ≡ suc z).
    let before : c.args.y - 1 ≡ z = omega (arith, is) in
    row_of_region coding store i z _ above c.region-region.ensures (let b = c.requires.below in omega (arith, b, is)) c.region_row.ensures.len
    (λ x px. subst (λ k. region_cell store c.region-region.result x k ≡ slice_get above x) before (c.region_row.ensures.cells x px)) in
    table_tokens coding c.requires.here.walked.coding i c.requires.here.channel g.S.Sealed.to_int store c.args.y row has g.S.Sealed.width g.T.TokenForm.form
    above (λ first. absurd (omega (arith, first, c.if-y-eq0.false))) over c.args.table.now c.requires.table (not (g.row.CLAMPED == 0)) c.requires.clamped c.table_row-else-y-eq0.new.out c.table_row-else-y-eq0.ensures
