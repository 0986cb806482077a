use Rattle.jxlm_base.proofs.RegionRows.{set_row}
use Rattle.jxlm_base.proofs.region.region_set_row.Goals as goal

pub returns : goal.returns
returns g c =
    set_row c.args.store.now c.args.region c.args.y c.requires.lies c.requires.in_rows c.args.values.now c.requires.fits
    c.index-store-region.result c.get_row_mut-row.result.now c.write_between.new.row c.get_row_mut-row.ensures.value c.write_between.ensures
