use Rattle.std.proofs.Common.{◌≡◌, ◌<◌, Ok, map, length, arith, refl, subst, sym, ◌∙◌}
use Rattle.std.proofs.lemmas.List.{length-map}
use Rattle.jxlm_bits.specs.Bits.{bytes_of}
use Rattle.jxlm_samples.specs.Inner.Cells.{source_of}
use Rattle.jxlm_samples.specs.Inner.Rows.{CellsGive, FailsCell, IsAtCell, ReadsCell, rule_on, walk_of}
use Rattle.jxlm_samples.specs.Reading.{cost_of}
use Rattle.jxlm_samples.proofs.CellLaws.{uses_none}
use Rattle.jxlm_samples.proofs.RowReads.{cell_fails, cell_more}
use Rattle.jxlm_samples.proofs.cell.read_cells.Goals as goal

pub decode_cell-requires-clause-inner : goal.decode_cell-requires-clause-inner
decode_cell-requires-clause-inner g c κs within inside = c.requires.inner inside c.loop-x.x c.loop-x.invariant.from c.loop-x-test.true

pub decode_cell-requires-clause-line : goal.decode_cell-requires-clause-line
decode_cell-requires-clause-line g c κs within = c.requires.line

pub decode_cell-requires-clause-column : goal.decode_cell-requires-clause-column
decode_cell-requires-clause-column g c κs within = let test = c.loop-x-test.true in let row = c.requires.in_row in omega (arith, test, row)

pub decode_cell-requires-clause-without : goal.decode_cell-requires-clause-without
decode_cell-requires-clause-without g c κs within none = uses_none _ _ _ _ _ _ (c.requires.without none) c.loop-x.invariant.reads.1.stands.corrects

pub decode_cell-requires-clause-clamped : goal.decode_cell-requires-clause-clamped
decode_cell-requires-clause-clamped g c κs within = c.requires.clamped

pub decode_cell-requires-clause-made : goal.decode_cell-requires-clause-made
decode_cell-requires-clause-made g c κs within = c.requires.made

pub decode_cell-requires-clause-at : goal.decode_cell-requires-clause-at
decode_cell-requires-clause-at g c κs within = c.loop-x.invariant.reads.1

pub loop-x-init : goal.loop-x-init
loop-x-init g c = record { len = refl; from = omega arith; reads = (λ start h. h, subst (λ s. IsAtCell c.args.line.now g.D.Decoder.meaning g.S.Sealed.to_int g.S.Sealed.width c.args.from c.args.row.now (walk_of c.args.walk.now.source c.args.walk.now.source.bits s)) (sym c.take-state.ensures) c.requires.at) }

pub loop-x-preserved : goal.loop-x-preserved
loop-x-preserved g c =
    let d = g.D.Decoder.meaning in
    let to_int = g.S.Sealed.to_int in
    let l = c.args.line.now in
    let row = c.loop-x.row in
    let old = source_of c.loop-x.walk.source c.loop-x.bits in
    let new = source_of c.decode_cell.new.source c.decode_cell.new.bits in
    let same = c.loop-x.invariant.len in
    let from = c.loop-x.invariant.from in
    let long = c.loop-x.invariant.reads.1.long in
    let inside : c.loop-x.x < length (map to_int row) = let m = length-map row to_int in omega (arith, m, long, c.requires.in_row, c.loop-x-test.true) in
    record {
      len = c.decode_cell.auto.row ∙ c.loop-x.invariant.len;
      from = omega (arith, from);
      reads = (
        λ start h.
            let so_far = c.loop-x.invariant.reads.0 start h in
            cell_more d (cost_of l.coding.now) (rule_on l d to_int g.S.Sealed.width (bytes_of start.bits)) start (map to_int row) c.loop-x.x old inside so_far new (map to_int c.decode_cell.new.row)
            (subst (λ bytes. ReadsCell d (cost_of l.coding.now) (rule_on l d to_int g.S.Sealed.width bytes) (map to_int row) c.loop-x.x old new (map to_int c.decode_cell.new.row)) so_far.bytes c.in-Ok.ensures.0),
        c.in-Ok.ensures.1,
      );
    }

pub returns-in-Err : goal.returns-in-Err
returns-in-Err g c =
    let d = g.D.Decoder.meaning in
    let to_int = g.S.Sealed.to_int in
    let l = c.args.line.now in
    let row = c.loop-x.row in
    let old = source_of c.loop-x.walk.source c.loop-x.bits in
    let new = source_of c.decode_cell.new.source c.decode_cell.new.bits in
    let long = c.loop-x.invariant.reads.1.long in
    let inside : c.loop-x.x < length (map to_int row) = let m = length-map row to_int in omega (arith, m, long, c.requires.in_row, c.loop-x-test.true) in
    λ start h.
    let so_far = c.loop-x.invariant.reads.0 start h in
    cell_fails d (cost_of l.coding.now) (rule_on l d to_int g.S.Sealed.width (bytes_of start.bits)) start (map to_int row) c.loop-x.x old inside so_far new (map to_int c.decode_cell.new.row) c.in-Err.error
    (subst (λ bytes. FailsCell d (cost_of l.coding.now) (rule_on l d to_int g.S.Sealed.width bytes) (map to_int row) c.loop-x.x old new (map to_int c.decode_cell.new.row) c.in-Err.error) so_far.bytes c.in-Err.ensures)

pub returns : goal.returns
returns g c =
    let end = c.loop-x.auto.x-end in
    let all : c.loop-x.x ≡ c.args.to = omega (arith, end, c.requires.order, c.loop-x-test.false) in
    subst (λ n. CellsGive c.args.line.now g.D.Decoder.meaning g.S.Sealed.to_int g.S.Sealed.width c.args.from n c.args.row.now c.loop-x.row c.args.walk.now (walk_of c.loop-x.walk.source c.loop-x.bits c.loop-x.state) (Ok tt)) all c.loop-x.invariant.reads
