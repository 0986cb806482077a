use Rattle.std.specs.Prelude.{IfSome}
use Rattle.std.proofs.Common.{◌<◌, ◌∙◌, ap, sym, subst, arith}
use Rattle.std.proofs.lemmas.List.{length-take-le}
use Rattle.jxlm_base.specs.declared.subgrid.Region.{Region}
use Rattle.jxlm_samples.specs.ChannelSettings.{region_at}
use Rattle.jxlm_samples.specs.Inner.LeafRows.{IsLeafAlone}
use Rattle.jxlm_samples.specs.Inner.Progress.{place_of}
use Rattle.jxlm_samples.proofs.CellLaws.{flat_at}
use Rattle.jxlm_samples.specs.Reading.{part_of, regions_of}
use Rattle.jxlm_samples.proofs.Decoding.{at_first_row, none_decoded, walks_between}
use Rattle.jxlm_samples.proofs.Loops.{channel_begins, channel_done, channel_empty, channel_flat, ok_so}
use Rattle.jxlm_samples.proofs.Starting.{after_channel, after_empty, fits_widest}
use Rattle.jxlm_samples.proofs.decode.decode_channel.Goals.{then-region-eq0-via-then-region-eq0, then-region-eq0-via-else-region-eq0+then-region-eq0-2}
use Rattle.jxlm_samples.proofs.decode.decode_channel.Goals as goal

pub slice_bounds-row-end : goal.slice_bounds-row-end
slice_bounds-row-end g c = let n = fits_widest c.args.coding.now c.requires.at.part.coding c.args.i c.requires.channel c.region-region.result c.region-region.ensures (omega (arith, c.if-region-eq0-2.false)) in omega (arith, n, c.requires.room)

pub slice_bounds-row-end-2 : goal.slice_bounds-row-end-2
slice_bounds-row-end-2 g c =
    let n = fits_widest c.args.coding.now c.requires.at.part.coding c.args.i c.requires.channel c.region-region.result c.region-region.ensures (omega (arith, c.if-region-eq0-2.false)) in
    sym (length-take-le c.region-region.result.width c.args.scratch.now (omega (arith, n, c.requires.room)))

pub decode_rows-requires-clause-long : goal.decode_rows-requires-clause-long
decode_rows-requires-clause-long g c κs within =
    let n = fits_widest c.args.coding.now c.requires.at.part.coding c.args.i c.requires.channel c.region-region.result c.region-region.ensures (omega (arith, c.if-region-eq0-2.false)) in
    length-take-le c.region-region.result.width c.args.scratch.now (omega (arith, n, c.requires.room)) ∙ ap (λ (r : Region). r.width) c.region-region.ensures

pub decode_rows-requires-clause-at : goal.decode_rows-requires-clause-at
decode_rows-requires-clause-at g c κs within =
    let at = c.requires.at in
    let begins = c.begin_channel-path.ensures in
    record {
      here = record { part = at.part; channel = c.requires.channel; columns = subst (λ (r : Region). 0 < r.width) c.region-region.ensures (omega (arith, c.if-region-eq0.false)) };
      gives = begins.gives;
      allows = begins.allows;
      steps = begins.steps;
      ready = record { clusters = at.ready.clusters; roomy = begins.roomy };
      within = begins.within;
      leads = subst (λ t. IfSome c.lone_leaf-only.result (IsLeafAlone t)) (flat_at c.args.coding.now at.part.coding c.args.i c.requires.channel _) c.lone_leaf-only.ensures;
      stands = λ walked none. at_first_row c.args.coding.now c.args.i g.S.Sealed.to_int c.args.store.now c.begin_channel-path.new.state (begins.stands walked c.args.store.now);
    }

pub returns-then-region-eq0-clause-gives : goal.returns-then-region-eq0-clause-gives
returns-then-region-eq0-clause-gives g c =
    none_decoded _ _ _
    (elim c.then-region-eq0.branch [
      | then-region-eq0-via-then-region-eq0 w ↦
          channel_empty (part_of c.args.coding.now) (regions_of c.args.coding.now) c.requires.at.part.coding.sizes c.args.i c.requires.channel (rw c.region-region.ensures at w.if-region-eq0.true)
      | then-region-eq0-via-else-region-eq0+then-region-eq0-2 w ↦
          channel_flat (part_of c.args.coding.now) (regions_of c.args.coding.now) c.requires.at.part.coding.sizes c.args.i c.requires.channel (rw c.region-region.ensures at w.if-region-eq0-2.true)
    ])

pub returns-then-region-eq0-clause-at : goal.returns-then-region-eq0-clause-at
returns-then-region-eq0-clause-at g c = record {
  part = c.requires.at.part;
  ready = c.requires.at.ready;
  last = elim c.then-region-eq0.branch [
    | then-region-eq0-via-then-region-eq0 w ↦ after_empty c.args.coding.now c.args.i c.args.walk.now.state (λ wide high. let none = rw c.region-region.ensures at w.if-region-eq0.true in omega (arith, none, wide))
    | then-region-eq0-via-else-region-eq0+then-region-eq0-2 w ↦ after_empty c.args.coding.now c.args.i c.args.walk.now.state (λ wide high. let none = rw c.region-region.ensures at w.if-region-eq0-2.true in omega (arith, none, high))
  ];
}

pub returns-clause-gives : goal.returns-clause-gives
returns-clause-gives g c =
    let part = part_of c.args.coding.now in
    walks_between _ _ _ _ (place_of part c.args.i 0 0) (place_of part c.args.i 0 (region_at (regions_of c.args.coding.now) c.args.i).height) _ _ _ _ _
    (channel_begins part c.args.i) (channel_done part (regions_of c.args.coding.now) c.requires.at.part.coding.sizes c.args.i c.requires.channel) c.decode_rows.ensures.gives

pub returns-clause-at : goal.returns-clause-at
returns-clause-at g c =
    ok_so c.decode_rows.result _ _
    (λ h. record { part = h.here.part; ready = h.ready; last = after_channel c.args.coding.now c.args.i c.decode_rows.new.walk.state h.within })
    c.decode_rows.ensures.at
