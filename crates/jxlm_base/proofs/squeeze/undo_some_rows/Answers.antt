use Rattle.std.proofs.Common.{◌≡◌, ◌+◌, arith, subst}
use Rattle.jxlm_lanes.specs.Squeeze.{AreSamples}
use Rattle.jxlm_base.specs.Subgrid.{whole}
use Rattle.jxlm_lanes.specs.Pairs.{IsUnsqueezed}
use Rattle.jxlm_base.specs.Inner.Unsqueeze.{row_in}
use Rattle.jxlm_base.proofs.squeeze.undo_some_rows.Goals as goal

pub returns-then-rows-lt-ROWS-clause-undone : goal.returns-then-rows-lt-ROWS-clause-undone
returns-then-rows-lt-ROWS-clause-undone g c j q =
    let f = g.S.Pairs.to_int in
    let s = c.args.subgrid.now in
    let e : c.args.y ≡ c.args.y + j = omega arith in
    subst (λ y. IsUnsqueezed g.S.Pairs.width s.width (row_in f s (whole s) y) (row_in f s (whole c.undo_row.new.subgrid) y)) e c.undo_row.ensures.undone

pub returns-then-rows-lt-ROWS-clause-samples : goal.returns-then-rows-lt-ROWS-clause-samples
returns-then-rows-lt-ROWS-clause-samples g c j q =
    let s = c.args.subgrid.now in
    let e : c.args.y ≡ c.args.y + j = omega arith in
    subst (λ y. AreSamples g.S.Pairs.width s.width (row_in g.S.Pairs.to_int s (whole s) y)) e c.undo_row.ensures.samples
