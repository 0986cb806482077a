use Rattle.std.proofs.Common.{◌<◌, ◌≤◌, length, subst, arith}
use Rattle.std.proofs.lemmas.List.Elements.{All-more}
use Rattle.jxlm_base.specs.Grid.{IsFull}
use Rattle.jxlm_encode.proofs.OwnGrids.{all_channels, next_channel}
use Rattle.jxlm_encode.proofs.placing.infos_of.Goals as goal

pub loop-grid-preserved : goal.loop-grid-preserved
loop-grid-preserved g c =
    let grids = c.args.grids.now in
    let i = c.loop-grid.grid-index in
    let lt : i < length grids = omega (arith, c.loop-grid-test.true, c.loop-grid.auto.grid-index-end) in
    record {
      channels = next_channel grids i c.grid-item.result c.loop-grid.infos.items c.push.new.self.items _ _ c.new-params.result c.new.result lt c.grid-item.is c.width.ensures.value c.height.ensures.value
          c.new-params.ensures c.new.ensures c.loop-grid.invariant.channels c.in_ok-push.ensures.items;
      full = All-more IsFull grids i c.grid-item.result lt c.loop-grid.invariant.full (subst IsFull c.grid-item.is c.width.ensures.full);
    }

pub returns-clause-channels : goal.returns-clause-channels
returns-clause-channels g c =
    let le : length c.args.grids.now ≤ c.loop-grid.grid-index = omega (arith, c.loop-grid-test.false, c.loop-grid.auto.grid-index-end) in
    all_channels g.S.Sealed.to_int c.args.grids.now c.loop-grid.grid-index c.loop-grid.infos.items le c.loop-grid.invariant.channels
