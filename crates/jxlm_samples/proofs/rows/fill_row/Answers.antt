use Rattle.std.proofs.Common.{◌≡◌, ◌+◌, ◌-◌, arith, ap, ◌∙◌, drop, take, ◌++◌}
use Rattle.std.specs.Prelude.{replicate}
use Rattle.std.proofs.lemmas.List.{length-replicate}
use Rattle.jxlm_base.proofs.RegionRows.{set_row}
use Rattle.jxlm_samples.proofs.rows.fill_row.Goals as goal

pub returns : goal.returns
returns g c =
    let r = c.args.region in
    let n : r.x + r.width - r.x ≡ r.width = omega arith in
    set_row c.args.store.now r c.args.y c.requires.lies c.requires.in_rows (replicate r.width c.args.value) (length-replicate r.width c.args.value)
    c.index-store-region.result c.get_row_mut-row.result.now c.fill_between.new.row c.get_row_mut-row.ensures.value
    (c.fill_between.ensures ∙ ap (λ k. take r.x c.get_row_mut-row.result.now ++ (replicate k c.args.value ++ drop (r.x + r.width) c.get_row_mut-row.result.now)) n)
