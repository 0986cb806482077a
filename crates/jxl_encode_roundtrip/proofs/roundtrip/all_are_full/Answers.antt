use Rattle.std.proofs.Common.{◌≡◌, suc, ◌+◌, ◌<◌, ◌≤◌, ℤ, List, length, take, subst, arith}
use Rattle.std.specs.List.{All}
use Rattle.std.proofs.lemmas.List.{take_all}
use Rattle.jxlm_base.specs.Grid.{Grid, IsFull}
use Rattle.jxl_encode_roundtrip.proofs.Full.{full_more}
use Rattle.jxl_encode_roundtrip.proofs.roundtrip.all_are_full.Goals as goal

pub loop-grid-preserved : goal.loop-grid-preserved
loop-grid-preserved c =
    let grids = c.args.grids.now in
    let i = c.loop-grid.grid-index in
    let lt : i < length grids = omega (arith, c.loop-grid-test.true, c.loop-grid.auto.grid-index-end) in
    let next : suc i ≡ i + 1 = omega arith in
    subst (λ n. All IsFull (take n grids)) next (full_more grids i c.grid-item.result lt c.grid-item.is c.width-columns.ensures.full c.loop-grid.invariant)

pub returns : goal.returns
returns c =
    let grids = c.args.grids.now in
    let le : length grids ≤ c.loop-grid.grid-index = omega (arith, c.loop-grid-test.false, c.loop-grid.auto.grid-index-end) in
    subst (λ (gs : List (Grid ℤ)). All IsFull gs) (take_all c.loop-grid.grid-index grids le) c.loop-grid.invariant
