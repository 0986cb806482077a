use Rattle.std.proofs.Common.{List, ◌≡◌, ◌<◌, ◌∙◌, ap, length, map, sym, subst, arith, Ok}
use Rattle.std.proofs.lemmas.Result.{err_from_is_err_and}
use Rattle.std.specs.List.{All}
use Rattle.jxlm_bits.specs.ErrorKind.{kind_of}
use Rattle.jxlm_transform.specs.Lists.{list_of}
use Rattle.jxlm_transform.specs.ChannelSteps.{coded_list}
use Rattle.jxlm_transform.specs.Kinds.{is_palette, is_squeeze}
use Rattle.jxlm_transform.specs.Transforms.{HasChannels, transform_of}
use Rattle.jxlm_transform.specs.declared.transform.TransformInfo.{TransformInfo}
use Rattle.jxlm_transform.specs.Steps.{steps_in}
use Rattle.jxlm_chain.proofs.PlacedSteps.{goes_nowhere}
use Rattle.jxlm_chain.proofs.Preparing.{all_gone, all_prepared, first_is, goes_further, kept_alike, nothing_done, others_are, prepared_more, prepared_fails, written_back}
use Rattle.jxlm_chain.proofs.placed.PlacedChannels.apply.Goals as goal

pub loop-transform-init : goal.loop-transform-init
loop-transform-init c =
    let lent = c.deref_mut-transform-items.ensures.value in
    record {
      goes = goes_nowhere c.args.self.now c.requires.placed;
      channels = subst (λ (ts : List TransformInfo). All HasChannels (map transform_of ts)) (sym lent) c.requires.some_channels;
      palettes = ap (λ (ts : List TransformInfo). map is_palette (map transform_of ts)) lent;
      squeezes = ap (λ (ts : List TransformInfo). map is_squeeze (map transform_of ts)) lent;
      so_far = nothing_done c.deref_mut-transform-items.result.now (list_of c.args.self.now.channels) ∙ ap (λ (ts : List TransformInfo). coded_list (map transform_of ts) (list_of c.args.self.now.channels)) lent;
    }

pub add-requires-clause-some_channels : goal.add-requires-clause-some_channels
add-requires-clause-some_channels c =
    let ts = c.loop-transform.transform-items in
    let i = c.loop-transform.transform-index in
    let there : i < length ts = omega (arith, c.loop-transform-test.true, c.loop-transform.auto.transform-items) in
    first_is ts i c.transform-item.result there c.loop-transform.invariant.channels

pub add-requires-clause-placed : goal.add-requires-clause-placed
add-requires-clause-placed c = c.loop-transform.invariant.goes.placed

pub returns-in_err-add-clause-gives : goal.returns-in_err-add-clause-gives
returns-in_err-add-clause-gives c =
    let p = err_from_is_err_and c.from_residual.result c.from_residual.ensures.1 in
    let ts = c.loop-transform.transform-items in
    let i = c.loop-transform.transform-index in
    let there : i < length ts = omega (arith, c.loop-transform-test.true, c.loop-transform.auto.transform-items) in
    let refused = prepared_fails ts i c.transform-item.result (list_of c.loop-transform.self.channels) (kind_of c.in_err-add.field-0.0) _ there c.in_err-add.ensures.gives c.loop-transform.invariant.so_far in
    rw (p.1, p.2) refused

pub loop-transform-preserved : goal.loop-transform-preserved
loop-transform-preserved c =
    let ts = c.loop-transform.transform-items in
    let i = c.loop-transform.transform-index in
    let d = c.transform-item.result in
    let u = c.add.new.transform in
    let there : i < length ts = omega (arith, c.loop-transform-test.true, c.loop-transform.auto.transform-items) in
    let gives = c.in_ok-add.ensures.gives in
    record {
      goes = goes_further ts i u c.args.self.now c.loop-transform.self c.add.new.self there c.loop-transform.invariant.goes c.in_ok-add.ensures.goes;
      channels = others_are ts i d u there c.loop-transform.invariant.channels;
      palettes = kept_alike is_palette ts i d u c.in_ok-add.ensures.kind.palette ∙ c.loop-transform.invariant.palettes;
      squeezes = kept_alike is_squeeze ts i d u c.in_ok-add.ensures.kind.squeeze ∙ c.loop-transform.invariant.squeezes;
      so_far = prepared_more ts i d u (list_of c.loop-transform.self.channels) (list_of c.add.new.self.channels) _ there gives.0 gives.1 c.loop-transform.invariant.so_far;
    }

pub returns-clause-gives : goal.returns-clause-gives
returns-clause-gives c =
    let ts = c.loop-transform.transform-items in
    let old = c.args.transforms.now in
    let lengths : length ts ≡ length old.items = c.loop-transform.auto.transform-items ∙ c.deref_mut-transform-items.ensures.len ∙ omega (arith, old.ok.0) in
    let back = written_back ts old.items old.len lengths (omega (arith, old.ok.0)) in
    let all = all_prepared ts c.loop-transform.transform-index (list_of c.loop-transform.self.channels) _ (omega (arith, c.loop-transform-test.false, c.loop-transform.auto.transform-items)) c.loop-transform.invariant.so_far in
    all ∙ ap (λ (us : List TransformInfo). Ok (record { steps = steps_in (map transform_of us); list = list_of c.loop-transform.self.channels })) (sym back)

pub returns-clause-goes : goal.returns-clause-goes
returns-clause-goes c =
    let ts = c.loop-transform.transform-items in
    let old = c.args.transforms.now in
    let lengths : length ts ≡ length old.items = c.loop-transform.auto.transform-items ∙ c.deref_mut-transform-items.ensures.len ∙ omega (arith, old.ok.0) in
    let back = written_back ts old.items old.len lengths (omega (arith, old.ok.0)) in
    all_gone ts _ c.loop-transform.transform-index c.args.self.now c.loop-transform.self (omega (arith, c.loop-transform-test.false, c.loop-transform.auto.transform-items)) back c.loop-transform.invariant.goes

pub returns-clause-kinds : goal.returns-clause-kinds
returns-clause-kinds c =
    let ts = c.loop-transform.transform-items in
    let old = c.args.transforms.now in
    let lengths : length ts ≡ length old.items = c.loop-transform.auto.transform-items ∙ c.deref_mut-transform-items.ensures.len ∙ omega (arith, old.ok.0) in
    let back = written_back ts old.items old.len lengths (omega (arith, old.ok.0)) in
    record {
      palettes = ap (λ (us : List TransformInfo). map is_palette (map transform_of us)) back ∙ c.loop-transform.invariant.palettes;
      squeezes = ap (λ (us : List TransformInfo). map is_squeeze (map transform_of us)) back ∙ c.loop-transform.invariant.squeezes;
    }
