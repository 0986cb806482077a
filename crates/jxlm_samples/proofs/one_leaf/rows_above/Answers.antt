use Rattle.std.proofs.Common.{◌<◌, ◌∙◌, arith, refl, sym}
use Rattle.jxlm_samples.specs.Lines.{region_on}
use Rattle.jxlm_samples.proofs.RowNeighbours.{row_above_is, row_two_above_is}
use Rattle.jxlm_samples.proofs.one_leaf.rows_above.Goals as goal

pub returns-then-line-eq0 : goal.returns-then-line-eq0
returns-then-line-eq0 g c = rw c.if-line-eq0.true (record { as_long = refl; one = refl; two = refl })

pub returns : goal.returns
returns g c =
    let l = c.args.line.now in
    let to_int = g.S.Sealed.to_int in
    let later : 0 < l.y = omega (arith, c.if-line-eq0.false) in
    let below = c.requires.below in
    record {
      as_long = c.region_row-two.ensures.len ∙ sym c.region_row-one.ensures.len;
      one = row_above_is to_int l.store.now (region_on l) l.y c.region_row-one.result.now later below (rw c.region-region.ensures at c.region_row-one.ensures.len) (rw c.region-region.ensures at c.region_row-one.ensures.cells);
      two = row_two_above_is to_int l.store.now (region_on l) l.y c.region_row-two.result.now later below (rw c.region-region.ensures at c.region_row-two.ensures.len)
          (rw (c.region-region.ensures, c.saturating_sub.ensures) at c.region_row-two.ensures.cells);
    }
