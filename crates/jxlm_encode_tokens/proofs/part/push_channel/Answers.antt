use Rattle.std.proofs.Common.{◌<◌, inl, inr, ap, sym, subst, arith, ◌∙◌}
use Rattle.std.proofs.lemmas.List.{length-take-le}
use Rattle.jxlm_base.specs.declared.subgrid.Region.{Region}
use Rattle.jxlm_samples.specs.Reading.{tree_of}
use Rattle.jxlm_samples.proofs.CellLaws.{alone_is}
use Rattle.jxlm_samples.proofs.Starting.{after_channel, after_empty, fits_widest, lone_at, not_walked}
use Rattle.jxlm_encode_tokens.proofs.Pass.{no_cells, on_ok}
use Rattle.jxlm_encode_tokens.proofs.part.push_channel.Goals.{then-region-eq0-via-then-region-eq0, then-region-eq0-via-else-region-eq0+then-region-eq0-2}
use Rattle.jxlm_encode_tokens.proofs.part.push_channel.Goals as goal

pub slice_bounds-out-end : goal.slice_bounds-out-end
slice_bounds-out-end g c = let n = fits_widest c.args.coding.now c.requires.walked.coding c.args.i c.requires.channel c.region-region.result c.region-region.ensures (omega (arith, c.if-region-eq0-2.false)) in omega (arith, n, c.requires.room)

pub slice_bounds-out-end-2 : goal.slice_bounds-out-end-2
slice_bounds-out-end-2 g c =
    let n = fits_widest c.args.coding.now c.requires.walked.coding c.args.i c.requires.channel c.region-region.result c.region-region.ensures (omega (arith, c.if-region-eq0-2.false)) in
    sym (length-take-le c.region-region.result.width c.args.scratch.now (omega (arith, n, c.requires.room)))

pub push_lone_rows-requires-clause-leaves : goal.push_lone_rows-requires-clause-leaves
push_lone_rows-requires-clause-leaves g c κs within =
    c.lone_leaves.ensures (tree_of c.args.coding.now c.args.i)
    (lone_at c.args.coding.now c.requires.walked.coding c.args.i c.requires.channel c.index-coding-i.result c.in-Some.alone c.in-Some.is) c.requires.walked.ones

pub push_lone_rows-requires-clause-long : goal.push_lone_rows-requires-clause-long
push_lone_rows-requires-clause-long g c κs within =
    let n = fits_widest c.args.coding.now c.requires.walked.coding c.args.i c.requires.channel c.region-region.result c.region-region.ensures (omega (arith, c.if-region-eq0-2.false)) in
    length-take-le c.region-region.result.width c.args.scratch.now (omega (arith, n, c.requires.room)) ∙ ap (λ (r : Region). r.width) c.region-region.ensures

pub push_walked_rows-requires-clause-long : goal.push_walked_rows-requires-clause-long
push_walked_rows-requires-clause-long g c κs within =
    let n = fits_widest c.args.coding.now c.requires.walked.coding c.args.i c.requires.channel c.region-region.result c.region-region.ensures (omega (arith, c.if-region-eq0-2.false)) in
    length-take-le c.region-region.result.width c.args.scratch.now (omega (arith, n, c.requires.room)) ∙ ap (λ (r : Region). r.width) c.region-region.ensures

pub push_walked_rows-requires-clause-stands : goal.push_walked_rows-requires-clause-stands
push_walked_rows-requires-clause-stands g c κs within = c.start_channel.ensures.stands c.args.store.now

pub returns-then-region-eq0-clause-tokens : goal.returns-then-region-eq0-clause-tokens
returns-then-region-eq0-clause-tokens g c =
    no_cells c.args.coding.now g.S.Sealed.width g.S.Sealed.to_int c.args.store.now g.T.TokenForm.form c.requires.walked.coding c.args.i c.requires.channel c.args.tokens.now.items
    (elim c.then-region-eq0.branch [
      | then-region-eq0-via-then-region-eq0 w ↦ inl (rw c.region-region.ensures at w.if-region-eq0.true)
      | then-region-eq0-via-else-region-eq0+then-region-eq0-2 w ↦ inr (rw c.region-region.ensures at w.if-region-eq0-2.true)
    ]) c.requires.before

pub returns-then-region-eq0-clause-last : goal.returns-then-region-eq0-clause-last
returns-then-region-eq0-clause-last g c =
    after_empty c.args.coding.now c.args.i c.args.walk.now.state (λ columns rows.
    elim c.then-region-eq0.branch [
      | then-region-eq0-via-then-region-eq0 w ↦ let none = rw c.region-region.ensures at w.if-region-eq0.true in absurd (omega (arith, none, columns))
      | then-region-eq0-via-else-region-eq0+then-region-eq0-2 w ↦ let none = rw c.region-region.ensures at w.if-region-eq0-2.true in absurd (omega (arith, none, rows))
    ])

pub returns-in-Some-clause-roomy : goal.returns-in-Some-clause-roomy
returns-in-Some-clause-roomy g c = on_ok c.push_lone_rows.result _ c.requires.roomy

pub returns-in-Some-clause-last : goal.returns-in-Some-clause-last
returns-in-Some-clause-last g c =
    on_ok c.push_lone_rows.result _
    (after_channel c.args.coding.now c.args.i c.args.walk.now.state
    (λ walked. absurd (not_walked c.args.coding.now c.requires.walked.coding c.args.i c.requires.channel c.index-coding-i.result c.in-Some.alone c.in-Some.is walked)))

pub start_channel-requires-clause-next : goal.start_channel-requires-clause-next
start_channel-requires-clause-next g c κs within = record {
  channel = c.requires.channel;
  columns = subst (λ (r : Region). 0 < r.width) c.region-region.ensures (omega (arith, c.if-region-eq0.false));
  rows = subst (λ (r : Region). 0 < r.height) c.region-region.ensures (omega (arith, c.if-region-eq0-2.false));
  coding = c.requires.walked.coding;
  roomy = c.requires.roomy;
  last = c.requires.last;
}

pub start_channel-requires-clause-walked : goal.start_channel-requires-clause-walked
start_channel-requires-clause-walked g c κs within = alone_is c.args.coding.now c.requires.walked.coding c.args.i c.requires.channel c.index-coding-i.result ∙ c.in_default.is
