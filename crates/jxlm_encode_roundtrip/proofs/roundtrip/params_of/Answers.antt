use Rattle.std.proofs.Common.{◌<◌, ◌≤◌, length, arith}
use Rattle.jxlm_encode_roundtrip.proofs.OwnParams.{all_params, next_params, params_count, params_list, params_valid}
use Rattle.jxlm_encode_roundtrip.proofs.roundtrip.params_of.Goals as goal

pub returns-clause-list : goal.returns-clause-list
returns-clause-list g c =
    let le : length c.args.grids.now ≤ c.loop-grid.grid-index = omega (arith, c.loop-grid-test.false, c.loop-grid.auto.grid-index-end) in
    params_list g.S.Sealed.to_int c.args.grids.now c.loop-grid.params.items (all_params c.args.grids.now c.loop-grid.grid-index c.loop-grid.params.items le c.loop-grid.invariant)

pub returns-clause-valid : goal.returns-clause-valid
returns-clause-valid g c =
    let le : length c.args.grids.now ≤ c.loop-grid.grid-index = omega (arith, c.loop-grid-test.false, c.loop-grid.auto.grid-index-end) in
    params_valid c.args.grids.now c.loop-grid.params.items c.requires (all_params c.args.grids.now c.loop-grid.grid-index c.loop-grid.params.items le c.loop-grid.invariant)

pub returns-clause-count : goal.returns-clause-count
returns-clause-count g c =
    let le : length c.args.grids.now ≤ c.loop-grid.grid-index = omega (arith, c.loop-grid-test.false, c.loop-grid.auto.grid-index-end) in
    params_count c.args.grids.now c.loop-grid.params.items (all_params c.args.grids.now c.loop-grid.grid-index c.loop-grid.params.items le c.loop-grid.invariant)

pub loop-grid-preserved : goal.loop-grid-preserved
loop-grid-preserved g c =
    let grids = c.args.grids.now in
    let i = c.loop-grid.grid-index in
    let lt : i < length grids = omega (arith, c.loop-grid-test.true, c.loop-grid.auto.grid-index-end) in
    next_params grids i c.grid-item.result c.loop-grid.params.items c.push.new.self.items _ _ _ lt c.grid-item.is c.width.ensures.value c.height.ensures.value c.new.ensures c.loop-grid.invariant c.in_ok-push.ensures.items
