use Rattle.std.proofs.Common.{refl, sym, subst}
use Rattle.std.proofs.lemmas.Result.{err_from_is_err_and}
use Rattle.jxlm_samples.specs.Inner.Progress.{moment}
use Rattle.jxlm_samples.specs.Reading.{FindsClusters}
use Rattle.jxlm_samples.proofs.Starting.{after_none}
use Rattle.jxlm_samples.proofs.Whole.{part_decoded, part_fails, part_not_begun, part_refused}
use Rattle.jxlm_samples.proofs.decode.decode_part.Goals as goal

pub returns-in_err-begin : goal.returns-in_err-begin
returns-in_err-begin g c =
    let p = err_from_is_err_and c.from_residual.result c.from_residual.ensures.1 in
    rw (p.1, p.2) (part_not_begun _ _ g.met.D.Decoder.lawful _ _ (moment c.args.walk.now.source c.args.store.now) c.begin.new.self c.args.walk.now.source.bits _ c.in_err-begin.ensures.gives.0 refl refl)

pub decode_channels-requires-clause-at : goal.decode_channels-requires-clause-at
decode_channels-requires-clause-at g c κs within = record {
  part = c.requires.part;
  ready = record {
    clusters = subst (FindsClusters c.args.coding.now) (sym c.in_ok-begin.ensures.keeps.clusters) c.requires.clusters;
    roomy = c.requires.rooms.predictor;
  };
  last = after_none c.args.coding.now 0 c.args.walk.now.state;
}

pub returns-in_err-decode_channels : goal.returns-in_err-decode_channels
returns-in_err-decode_channels g c =
    let p = err_from_is_err_and c.from_residual-in_err-decode_channels.result c.from_residual-in_err-decode_channels.ensures.1 in
    rw (p.1, p.2)
    (part_fails _ _ g.met.D.Decoder.lawful _ _ (moment c.args.walk.now.source c.args.store.now) c.requires.part.coding.sizes _ c.begin.new.bits c.in_ok-begin.ensures.gives c.in_ok-begin.ensures.bytes _ _ c.in_err-decode_channels.ensures)

pub returns-in_err-finalize : goal.returns-in_err-finalize
returns-in_err-finalize g c =
    let p = err_from_is_err_and c.from_residual-in_err-finalize.result c.from_residual-in_err-finalize.ensures.1 in
    rw (p.1, p.2)
    (part_refused _ _ g.met.D.Decoder.lawful _ _ (moment c.args.walk.now.source c.args.store.now) c.requires.part.coding.sizes _ c.begin.new.bits c.in_ok-begin.ensures.gives c.in_ok-begin.ensures.bytes _ c.in_ok-decode_channels.ensures _ (sym c.in_err-finalize.ensures))

pub returns : goal.returns
returns g c =
    part_decoded _ _ g.met.D.Decoder.lawful _ _ (moment c.args.walk.now.source c.args.store.now) c.requires.part.coding.sizes _ c.begin.new.bits c.in_ok-begin.ensures.gives c.in_ok-begin.ensures.bytes _ c.in_ok-decode_channels.ensures (sym c.in_ok-finalize.ensures)
