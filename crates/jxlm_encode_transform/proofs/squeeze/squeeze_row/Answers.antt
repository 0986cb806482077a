use Rattle.jxlm_encode_transform.proofs.Squeezed.{squeezes_row}
use Rattle.jxlm_encode_transform.proofs.squeeze.squeeze_row.Goals as goal

pub returns-clause-squeezed : goal.returns-clause-squeezed
returns-clause-squeezed g c =
    squeezes_row g.S.Sealed.to_int c.args.region g.S.Sealed.width c.args.y c.region_row.result.now c.squeeze_line.new.coded c.args.store.now c.region_set_row.new.store
    c.region_row.ensures.len c.region_row.ensures.cells c.squeeze_line.ensures.squeezed c.squeeze_line.ensures.samples c.region_set_row.ensures
