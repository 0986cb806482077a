use Rattle.std.proofs.Common.{arith, subst}
use Rattle.jxlm_samples.specs.Lines.{IsAway}
use Rattle.jxlm_samples.proofs.CellLaws.{flat_there}
use Rattle.jxlm_encode_tokens.specs.Inner.Walks.{IsAtToken}
use Rattle.jxlm_encode_tokens.proofs.Cells.{is_ready, row_of_region, rows_are, same_room_twice}
use Rattle.jxlm_encode_tokens.proofs.rows.walked_row.Goals as goal

pub bounds-line-line : goal.bounds-line-line
bounds-line-line g c = flat_there c.args.line.now.coding.now c.requires.line.here.walked.coding c.args.line.now.i c.requires.line.here.channel

pub of-earlier-requires-after_bounds : goal.of-earlier-requires-after_bounds
of-earlier-requires-after_bounds g c κs within =
    let l = c.args.line.now in
    let is = c.requires.line in (
      omega arith,
      is_ready l.coding.now is.here.walked.coding l.i is.here.channel g.S.Sealed.to_int l.store.now 0 l.y is.columns is.below c.args.walk.now.state c.requires.at.stands is.here.walked.lie,
    )

pub cell_tokens-requires-clause-line : goal.cell_tokens-requires-clause-line
cell_tokens-requires-clause-line g c κs within =
    let l = c.args.line.now in
    let is = c.requires.line in
    record {
      line = is;
      are_rows = rw c.rows-rows.ensures
          (rows_are l.coding.now is.here.walked.coding l.i is.here.channel g.S.Sealed.to_int l.store.now 0 l.y is.columns is.below c.args.walk.now.state c.requires.at.stands _ c.of-earlier.ensures.held);
      has_cells = row_of_region l.coding.now l.store.now l.i l.y _ _ c.region.ensures is.below c.region_row-row.ensures.len c.region_row-row.ensures.cells;
    }

pub cell_tokens-requires-2-clause-line : goal.cell_tokens-requires-2-clause-line
cell_tokens-requires-2-clause-line g c κs within =
    let l = c.args.line.now in
    let is = c.requires.line in
    record {
      line = is;
      are_rows = rw c.rows-rows.ensures
          (rows_are l.coding.now is.here.walked.coding l.i is.here.channel g.S.Sealed.to_int l.store.now 0 l.y is.columns is.below c.args.walk.now.state c.requires.at.stands _ c.of-earlier.ensures.held);
      has_cells = row_of_region l.coding.now l.store.now l.i l.y _ _ c.region.ensures is.below c.region_row-row.ensures.len c.region_row-row.ensures.cells;
    }

pub cell_tokens-requires-2-clause-inner : goal.cell_tokens-requires-2-clause-inner
cell_tokens-requires-2-clause-inner g c κs within inside x after before =
    subst (λ n. IsAway x c.args.line.now.y n) (rw c.region.ensures at c.region_row-row.ensures.len) (c.inner_columns-from.ensures.inner x after before)

pub cell_tokens-requires-3-clause-line : goal.cell_tokens-requires-3-clause-line
cell_tokens-requires-3-clause-line g c κs within =
    let l = c.args.line.now in
    let is = c.requires.line in
    record {
      line = is;
      are_rows = rw c.rows-rows.ensures
          (rows_are l.coding.now is.here.walked.coding l.i is.here.channel g.S.Sealed.to_int l.store.now 0 l.y is.columns is.below c.args.walk.now.state c.requires.at.stands _ c.of-earlier.ensures.held);
      has_cells = row_of_region l.coding.now l.store.now l.i l.y _ _ c.region.ensures is.below c.region_row-row.ensures.len c.region_row-row.ensures.cells;
    }

pub returns-clause-at : goal.returns-clause-at
returns-clause-at g c =
    subst (λ n. IsAtToken c.args.line.now g.T.TokenForm.form g.S.Sealed.width g.S.Sealed.to_int n c.cell_tokens-3.new.out c.cell_tokens-3.new.walk.state) (rw c.region.ensures at c.region_row-row.ensures.len) c.cell_tokens-3.ensures.at

pub returns-clause-room : goal.returns-clause-room
returns-clause-room g c = same_room_twice _ _ _ c.cell_tokens.ensures.room (same_room_twice _ _ _ c.cell_tokens-2.ensures.room c.cell_tokens-3.ensures.room)
