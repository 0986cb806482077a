use Rattle.std.proofs.Common.{◌≡◌, ◌<◌, ◌∙◌, map, arith}
use Rattle.jxlm_base.specs.Regions.{grid_of, store_meanings}
use Rattle.jxlm_samples.specs.Inner.Paths.{row_above}
use Rattle.jxlm_samples.specs.Lines.{region_on}
use Rattle.jxlm_samples.proofs.RowNeighbours.{row_above_is}
use Rattle.jxlm_samples.proofs.RowsAlike.{are_gradients, row_of_gradients}
use Rattle.jxlm_samples.proofs.gradient.read_gradients.Goals as goal

pub read_by_kind-requires-clause-leaves : goal.read_by_kind-requires-clause-leaves
read_by_kind-requires-clause-leaves g c κs within = are_gradients c.args.line.now.coding.now c.args.line.now.i _ c.args.leaves c.requires.clusters c.requires.leads

pub returns-then-line-eq0 : goal.returns-then-line-eq0
returns-then-line-eq0 g c =
    let l = c.args.line.now in
    let first : l.y ≡ 0 = c.if-line-eq0.true in
    row_of_gradients l g.D.Decoder.meaning g.S.Sealed.to_int g.S.Sealed.width c.requires.line c.read_by_kind.new.row (c.read_by_kind.auto.row ∙ c.requires.long) c.args.source.now c.read_by_kind.new.source c.read_by_kind.result
    c.args.leaves c.requires.leads c.requires.steps (rw first c.read_by_kind.ensures)

pub read_by_kind-requires-2-clause-leaves : goal.read_by_kind-requires-2-clause-leaves
read_by_kind-requires-2-clause-leaves g c κs within = are_gradients c.args.line.now.coding.now c.args.line.now.i _ c.args.leaves c.requires.clusters c.requires.leads

pub returns : goal.returns
returns g c =
    let l = c.args.line.now in
    let later : 0 < l.y = omega (arith, c.if-line-eq0.false) in
    let above : map g.S.Sealed.to_int c.region_row-above.result.now ≡ row_above (grid_of (store_meanings g.S.Sealed.to_int l.store.now) (region_on l)) l.y =
    row_above_is g.S.Sealed.to_int l.store.now (region_on l) l.y c.region_row-above.result.now later c.requires.line.below (rw c.region.ensures at c.region_row-above.ensures.len) (rw c.region.ensures at c.region_row-above.ensures.cells) in
    row_of_gradients l g.D.Decoder.meaning g.S.Sealed.to_int g.S.Sealed.width c.requires.line c.read_by_kind-2.new.row (c.read_by_kind-2.auto.row ∙ c.requires.long) c.args.source.now c.read_by_kind-2.new.source c.read_by_kind-2.result
    c.args.leaves c.requires.leads c.requires.steps (rw (← above) c.read_by_kind-2.ensures)
