use Rattle.std.proofs.Common.{◌*◌, ◌/◌, ◌%◌, ◌<◌, ◌≤◌, ◌^◌, arith, rules}
use Rattle.jxlm_base.specs.Regions.{region}
use Rattle.jxlm_base.specs.declared.subgrid.Region.{Region}
use Rattle.jxlm_groups.specs.Cutting.{cell_height, cell_width, rows}
use Rattle.jxlm_groups.proofs.Fitting.{few_rows, fits_some, product_fits, row_below, small_side}
use Rattle.jxlm_groups.proofs.pieces.piece_of_group.Goals as goal

pub overflow_mul-y : goal.overflow_mul-y
overflow_mul-y c =
    let channel = c.args.channel.now in
    let dim = c.args.group_dim in
    let inside : c.args.k < c.from-columns.result * rows dim channel = search (rules, arith) in
    let row = row_below c.args.k c.from-columns.result (rows dim channel) inside in
    let high : channel.original_height < 2 ^ 32 = search (rules, arith) in
    let few = few_rows dim channel c.requires high in
    let small : c.cell_height-height.result ≤ 2 ^ 23 = rw c.cell_height-height.ensures (small_side dim channel _ c.requires) in
    let fits = product_fits (c.args.k / c.from-columns.result) c.cell_height-height.result (omega (arith, row, few)) small in
    omega (arith, fits)

pub returns-clause-fits : goal.returns-clause-fits
returns-clause-fits c =
    let channel = c.args.channel.now in
    let dim = c.args.group_dim in
    let r : Region = region c.args.n (c.args.k % c.from-columns.result * c.cell_width-width.result) (c.args.k / c.from-columns.result * c.cell_height-height.result) c.min.result c.min-2.result in
    let across : c.min.result ≤ cell_width dim channel = search (rules, arith) in
    let down : c.min-2.result ≤ cell_height dim channel = search (rules, arith) in
    fits_some dim channel c.with_cells.result r c.requires c.with_cells.ensures across down
