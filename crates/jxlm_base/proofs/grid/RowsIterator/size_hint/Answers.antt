use Rattle.std.proofs.Common.{◌-◌, arith}
use Rattle.std.proofs.lemmas.List.FromFn.{length-map-range_with_len}
use Rattle.jxlm_base.specs.Grid.{row}
use Rattle.jxlm_base.proofs.grid.RowsIterator.size_hint.Goals as goal

pub returns-clause-lower : goal.returns-clause-lower
returns-clause-lower g c = λ _.
    let it = c.args.self.now in
    let len = length-map-range_with_len (row it.grid.now) it.next (it.grid.now.height - it.next) in
    omega (arith, len)

pub returns-clause-upper : goal.returns-clause-upper
returns-clause-upper g c = (
  tt,
  let it = c.args.self.now in
      let len = length-map-range_with_len (row it.grid.now) it.next (it.grid.now.height - it.next) in
      omega (arith, len),
)
