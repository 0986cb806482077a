use Rattle.std.proofs.Common.{◌≡◌, ◌+◌, rules, subst, sym, ◌∙◌, w32, FitsSigned}
use Rattle.std.specs.Prelude.{slice_set}
use Rattle.std.proofs.Math.ListN.{length-set}
use Rattle.std.proofs.lemmas.Int.{to_z-of_z}
use Rattle.std.proofs.lemmas.Result.{err_from_is_err_and}
use Rattle.jxlm_tree.specs.Paths.{Gives}
use Rattle.jxlm_predictor.specs.Standing.{IsInner}
use Rattle.jxlm_samples.specs.ChannelSettings.{setting_of}
use Rattle.jxlm_samples.specs.Inner.Cells.{source_of}
use Rattle.jxlm_samples.specs.Inner.Rows.{IsAtCell, walk_of}
use Rattle.jxlm_samples.specs.Reading.{FindsClusters}
use Rattle.jxlm_samples.proofs.CellLaws.{clusters_at, fails_cell, flat_at, is_inner, is_ready, flat_there, made_on, own, reads_cell, roomy_still, rows_held, stands_further, sets_at, stands_so, sums_at}
use Rattle.jxlm_samples.proofs.cell.decode_cell.Goals as goal

pub properties_in_row-properties-requires-clause-ready : goal.properties_in_row-properties-requires-clause-ready
properties_in_row-properties-requires-clause-ready g c =
    is_ready c.args.line.now g.S.Sealed.to_int c.requires.line.line c.args.x c.args.row.now c.requires.at.long c.requires.column c.args.state.now c.requires.at.stands

pub properties_in_row-properties-requires-clause-inner : goal.properties_in_row-properties-requires-clause-inner
properties_in_row-properties-requires-clause-inner g c inside =
    is_inner c.args.line.now g.S.Sealed.to_int c.requires.line.line c.args.x c.args.row.now c.requires.at.long c.requires.column c.args.state.now c.requires.at.stands (c.requires.inner inside)

pub properties_in_row-properties-requires-clause-rows : goal.properties_in_row-properties-requires-clause-rows
properties_in_row-properties-requires-clause-rows g c =
    rows_held c.args.line.now g.S.Sealed.to_int c.requires.line.line c.args.x c.args.row.now c.requires.at.long c.requires.column c.args.state.now c.requires.at.stands c.args.rows.now c.requires.line.are_rows

pub bounds-line-line : goal.bounds-line-line
bounds-line-line g c = flat_there c.args.line.now.coding.now c.requires.line.line.here.part.coding c.args.line.now.i c.requires.line.line.here.channel

pub next_sample-requires-clause-clusters : goal.next_sample-requires-clause-clusters
next_sample-requires-clause-clusters g c κs within = clusters_at c.args.line.now.coding.now c.requires.line.line.here.part.coding c.args.line.now.i c.requires.line.line.here.channel _ _ c.requires.at.clusters

pub next_sample-requires-clause-gives : goal.next_sample-requires-clause-gives
next_sample-requires-clause-gives g c κs within =
    subst (λ t. Gives t c.args.line.now.path) (sym (flat_at c.args.line.now.coding.now c.requires.line.line.here.part.coding c.args.line.now.i c.requires.line.line.here.channel _)) c.requires.line.line.gives

pub next_sample-requires-clause-sums : goal.next_sample-requires-clause-sums
next_sample-requires-clause-sums g c κs within = λ yes.
    let line = c.requires.line.line in
    sums_at c.args.line.now.coding.now line.here.part.coding c.args.line.now.i line.here.channel _ (sym line.clamped ∙ c.requires.clamped ∙ yes)

pub next_sample-requires-clause-are : goal.next_sample-requires-clause-are
next_sample-requires-clause-are g c κs within = sets_at c.args.line.now.coding.now c.requires.line.line.here.part.coding c.args.line.now.i c.requires.line.line.here.channel _

pub next_sample-requires-clause-made : goal.next_sample-requires-clause-made
next_sample-requires-clause-made g c κs within = λ yes. made_on c.args.line.now _ _ c.requires.clamped (c.requires.made yes)

pub record_in_row-requires-clause-inner : goal.record_in_row-requires-clause-inner
record_in_row-requires-clause-inner g c inside =
    subst IsInner (sym c.properties_in_row-properties.ensures.unchanged)
    (is_inner c.args.line.now g.S.Sealed.to_int c.requires.line.line c.args.x c.args.row.now c.requires.at.long c.requires.column c.args.state.now c.requires.at.stands (c.requires.inner inside))

pub returns-in_err-sample : goal.returns-in_err-sample
returns-in_err-sample g c =
    let p = err_from_is_err_and c.from_residual.result c.from_residual.ensures.1 in
    let seen = c.properties_in_row-properties.ensures in
    let old = source_of c.args.source.now c.args.bits.now in
    let new = source_of c.next_sample.new.source c.next_sample.new.bits in
    rw (p.1, p.2)
    (fails_cell c.args.line.now g.S.Sealed.to_int c.requires.line.line c.args.x c.args.row.now c.requires.at.long c.requires.column g.D.Decoder.meaning g.S.Sealed.width old _ c.requires.line.steps new
    c.properties_in_row-properties.result seen.store (stands_so _ _ _ _ seen.unchanged c.requires.at.stands) _ (rw (sym c.requires.clamped ∙ c.requires.line.line.clamped) at c.in_err-sample.ensures))

pub returns : goal.returns
returns g c =
    let d = g.D.Decoder.meaning in
    let to_int = g.S.Sealed.to_int in
    let w = g.S.Sealed.width in
    let l = c.args.line.now in
    let is = c.requires.line.line in
    let at = c.requires.at in
    let sample = c.in_ok-sample.sample in
    let seen = c.properties_in_row-properties.ensures in
    let old = source_of c.args.source.now c.args.bits.now in
    let new = source_of c.next_sample.new.source c.next_sample.new.bits in
    let after = c.record_in_row.new.self.0 in
    let fits : FitsSigned w32 c.to_i32.result = record { sfits = c.to_i32.type_inv } in
    let number = to_z-of_z w32 c.to_i32.result fits ∙ c.to_i32.ensures.value in
    let after_it = rw number at (c.record_in_row.ensures.stands (setting_of l.coding.now l.i) (own l to_int is c.args.x c.args.row.now at.long c.requires.column) (rw seen.unchanged at.stands)) in
    let same = rw seen.unchanged at c.record_in_row.ensures.room in
    let back : c.state-2-1.given.0 ≡ after = search rules in
    let next : IsAtCell l d to_int w (c.args.x + 1) (slice_set c.args.row.now c.args.x sample) (walk_of c.next_sample.new.source c.next_sample.new.bits after) =
    record {
      long = length-set _ _ _ ∙ at.long;
      stands = stands_further l to_int is c.args.x c.args.row.now at.long c.requires.column sample _ after_it;
      roomy = roomy_still l.coding.now is.here.part.coding l.i is.here.channel c.args.state.now _ same at.roomy;
      clusters = subst (FindsClusters l.coding.now) (sym c.in_ok-sample.ensures.clusters) at.clusters;
    } in (
      reads_cell l to_int is c.args.x c.args.row.now at.long c.requires.column d w old _ c.requires.line.steps new
          c.properties_in_row-properties.result seen.store (stands_so _ _ _ _ seen.unchanged at.stands) g.S.Sealed.from_int g.met.S.Sealed.to_int_from_int sample (rw (sym c.requires.clamped ∙ is.clamped) at c.in_ok-sample.ensures),
      subst (λ s. IsAtCell l d to_int w (c.args.x + 1) (slice_set c.args.row.now c.args.x sample) (walk_of c.next_sample.new.source c.next_sample.new.bits s)) (sym back) next,
    )
