use Rattle.jxl_patches.proofs.Putting.{part_at}
use Rattle.jxl_patches.proofs.apply.part.Goals as goal

pub returns-clause-cells : goal.returns-clause-cells
returns-clause-cells c = λ i h.
    rw c.get_row-row.ensures.value (part_at c.args.grid.now c.args.x c.args.y c.args.count i c.width.ensures.full c.requires.in_rows c.requires.columns h)
