use Rattle.std.proofs.Common.{ap, sym, ◌∙◌, length}
use Rattle.std.specs.Prelude.{slice_get}
use Rattle.jxlm_inverse.proofs.ColourRegions.{finishes_row}
use Rattle.jxlm_inverse.proofs.rct.finish_row.Goals as goal

pub returns : goal.returns
returns g c =
    finishes_row c.args.regions.first c.args.regions.second c.args.regions.third g.S.Sealed.to_int g.S.Sealed.width c.args.kind.ty c.args.kind.permutation c.args.y c.args.store.now c.write_permuted.new.store
    c.copy_from_slice.new.self c.copy_from_slice-2.new.self c.copy_from_slice-3.new.self c.rct_rows.new.a c.rct_rows.new.b c.rct_rows.new.c
    c.requires.three (ap length c.copy_from_slice.ensures.after ∙ c.region_row.ensures.len)
    (λ x h. c.region_row.ensures.cells x h ∙ ap (λ l. slice_get l x) (sym c.copy_from_slice.ensures.after))
    (λ x h. c.region_row-2.ensures.cells x h ∙ ap (λ l. slice_get l x) (sym c.copy_from_slice-2.ensures.after))
    (λ x h. c.region_row-3.ensures.cells x h ∙ ap (λ l. slice_get l x) (sym c.copy_from_slice-3.ensures.after))
    c.rct_rows.ensures c.write_permuted.ensures
