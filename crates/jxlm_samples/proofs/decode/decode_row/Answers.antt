use Rattle.std.proofs.Common.{◌∙◌, subst}
use Rattle.std.specs.Prelude.{IfSome}
use Rattle.jxlm_samples.specs.Inner.Rows.{IsOnlySample}
use Rattle.jxlm_samples.specs.declared.rows.Line.{Line}
use Rattle.jxlm_samples.proofs.Decoding.{error_inside, row_below}
use Rattle.jxlm_samples.proofs.FilledRows.{below_filled, readable_zero, row_filled}
use Rattle.jxlm_samples.proofs.RowsOn.{row_written}
use Rattle.jxlm_samples.proofs.decode.decode_row.Goals as goal

pub write_read-requires-clause-inside : goal.write_read-requires-clause-inside
write_read-requires-clause-inside g c =
    let l : Line g.row.S.Denot g.row.D.Denot = record { coding = c.args.rows.now.coding; store = record { ref_ptr = c.args.store.ref_ptr; now = c.args.store.now }; path = c.args.rows.now.path; i = c.args.rows.now.i; y = c.args.y; clamped = c.args.rows.now.clamped } in
    error_inside l g.D.Decoder.meaning g.S.Sealed.width g.S.Sealed.to_int c.read_row-read.new.row (c.read_row-read.auto.row ∙ c.requires.long) _ _ c.read_row-read.result c.read_row-read.ensures.gives

pub only_sample-requires-clause-readable : goal.only_sample-requires-clause-readable
only_sample-requires-clause-readable g c κs within = readable_zero c.args.rows.now.coding.now c.args.rows.now.i _ c.args.rows.now.path c.requires.at.ready.clusters c.requires.at.gives

pub returns-in-Some : goal.returns-in-Some
returns-in-Some g c =
    let l : Line g.row.S.Denot g.row.D.Denot = record { coding = c.args.rows.now.coding; store = record { ref_ptr = c.args.store.ref_ptr; now = c.args.store.now }; path = c.args.rows.now.path; i = c.args.rows.now.i; y = c.args.y; clamped = c.args.rows.now.clamped } in
    let one = subst (λ o. IfSome o (IsOnlySample g.D.Decoder.meaning c.args.walk.now.source.decoder c.args.rows.now.path g.S.Sealed.width g.S.Sealed.to_int)) c.in-Some.is c.only_sample.ensures in
    let sets = rw c.region.ensures at c.fill_row.ensures in
    record {
      gives = row_filled l g.D.Decoder.meaning g.met.D.Decoder.lawful g.S.Sealed.width g.S.Sealed.to_int c.args.rows.now.only c.args.walk.now c.requires.at c.requires.below c.requires.clamped c.in-Some.value one c.fill_row.new.store sets;
      at = below_filled l g.D.Decoder.meaning g.met.D.Decoder.lawful g.S.Sealed.width g.S.Sealed.to_int c.args.rows.now.only c.args.walk.now c.requires.at c.requires.below c.requires.clamped c.in-Some.value one c.fill_row.new.store sets;
    }

pub returns : goal.returns
returns g c =
    let l : Line g.row.S.Denot g.row.D.Denot = record { coding = c.args.rows.now.coding; store = record { ref_ptr = c.args.store.ref_ptr; now = c.args.store.now }; path = c.args.rows.now.path; i = c.args.rows.now.i; y = c.args.y; clamped = c.args.rows.now.clamped } in
    let long = c.read_row-read.auto.row ∙ c.requires.long in
    let read = c.read_row-read.ensures in
    record {
      gives = row_written l g.D.Decoder.meaning g.S.Sealed.width g.S.Sealed.to_int c.requires.at.here c.requires.below c.write_read.new.store c.args.walk.now.source c.read_row-read.new.row c.read_row-read.new.walk.source
          c.read_row-read.result c.write_read.result long (rw c.region-2.ensures at c.write_read.ensures) read.gives;
      at = row_below l g.D.Decoder.meaning g.S.Sealed.width g.S.Sealed.to_int c.read_row-read.new.row long c.write_read.new.store c.args.rows.now.only c.args.walk.now c.read_row-read.new.walk c.requires.at c.requires.below
          c.read_row-read.result c.write_read.result (rw c.region-2.ensures at c.write_read.ensures) read.gives read.state;
    }
