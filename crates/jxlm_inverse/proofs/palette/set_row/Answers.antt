use Rattle.std.proofs.Common.{◌+◌, ◌++◌, ℤ, map, take, drop, ap, ◌∙◌}
use Rattle.std.specs.Int.{int_wrap}
use Rattle.std.proofs.lemmas.List.{length-map}
use Rattle.jxlm_base.proofs.RegionRows.{set_row}
use Rattle.jxlm_inverse.proofs.palette.set_row.Goals as goal

pub returns : goal.returns
returns g c =
    let f = λ (n : ℤ). g.S.Sealed.from_int (int_wrap g.S.Sealed.width n) in
    let vs = map f c.args.numbers.now in
    let r = c.args.region in
    set_row c.args.store.now r c.args.y c.requires.lies c.requires.in_rows vs (length-map c.args.numbers.now f ∙ c.requires.fits)
    c.index-store-region.result c.get_row_mut-row.result.now c.write_samples.new.row c.get_row_mut-row.ensures.value
    (c.write_samples.ensures ∙ ap (λ n. take r.x c.get_row_mut-row.result.now ++ (vs ++ drop (r.x + n) c.get_row_mut-row.result.now)) c.requires.fits)
