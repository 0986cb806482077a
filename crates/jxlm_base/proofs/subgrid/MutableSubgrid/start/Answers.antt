use Rattle.std.proofs.Common.{arith}
use Rattle.jxlm_base.specs.Subgrid.{whole}
use Rattle.jxlm_base.proofs.GridLines.{grid_line_within}
use Rattle.jxlm_base.proofs.subgrid.MutableSubgrid.start.Goals as goal

pub place_in-requires : goal.place_in-requires
place_in-requires g c =
    let s = c.args.self.now in
    let inside = s.columns_inside in
    let columns = c.requires.columns in
    let within = grid_line_within (whole s) s.x s.y c.args.x 0 s.height 0 s.full (omega (arith, inside, columns)) s.rows_inside c.requires.some_rows in
    rw (c.width-stride.ensures.value, c.buf.ensures.value) (omega (arith, within))
