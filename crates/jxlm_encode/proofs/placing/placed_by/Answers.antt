use Rattle.std.proofs.Common.{◌<◌, ◌≤◌, length, refl, arith}
use Rattle.std.proofs.lemmas.List.{length-map}
use Rattle.std.proofs.lemmas.Result.{err_from_is_err_and}
use Rattle.jxlm_transform.specs.declared.channels.PlacedChannel.{PlacedChannel}
use Rattle.jxlm_encode.proofs.Accepted.{come_next, none_come, refused_after, refused_by}
use Rattle.jxlm_encode.proofs.placing.placed_by.Goals as goal

pub loop-k-init : goal.loop-k-init
loop-k-init c = none_come c.args.infos.now c.in-Ok.placed c.in-Ok.ensures.list c.in-Ok.ensures.placed c.in-Ok.ensures.by

pub returns-in_err-apply_one-clause-err : goal.returns-in_err-apply_one-clause-err
returns-in_err-apply_one-clause-err c =
    let p = err_from_is_err_and c.from_residual.result c.from_residual.ensures.1 in
    let xs = c.args.transforms.now in
    let few : length xs ≤ 273 = omega (arith, c.if-transforms-gt-MAX_TRANSFORMS.false) in
    let lt : c.loop-k.k < length xs = omega (arith, c.loop-k-test.true, c.loop-k.auto.k-end) in
    let refused = refused_by xs c.loop-k.k c.index-transforms-k.result c.args.infos.now c.loop-k.placed few lt c.index-transforms-k.is c.loop-k.invariant c.in_err-apply_one.field-0.0 c.in_err-apply_one.ensures.err in
    rw (p.1, p.2) refused

pub loop-k-preserved : goal.loop-k-preserved
loop-k-preserved c =
    let xs = c.args.transforms.now in
    let lt : c.loop-k.k < length xs = omega (arith, c.loop-k-test.true, c.loop-k.auto.k-end) in
    come_next xs c.loop-k.k c.index-transforms-k.result c.args.infos.now c.loop-k.placed c.apply_one.new.placed lt c.index-transforms-k.is c.loop-k.invariant c.in_ok-apply_one.ensures.ok

pub returns-then-len-gt-MAX_CODED_CHANNELS-clause-err : goal.returns-then-len-gt-MAX_CODED_CHANNELS-clause-err
returns-then-len-gt-MAX_CODED_CHANNELS-clause-err c =
    let xs = c.args.transforms.now in
    let few : length xs ≤ 273 = omega (arith, c.if-transforms-gt-MAX_TRANSFORMS.false) in
    let le : length xs ≤ c.loop-k.k = omega (arith, c.loop-k-test.false, c.loop-k.auto.k-end) in
    refused_after xs c.loop-k.k (length xs) c.args.infos.now c.loop-k.placed few refl le c.loop-k.invariant
    (omega (arith, c.if-len-gt-MAX_CODED_CHANNELS.true, c.len.ensures, length-map c.loop-k.placed.channels.placed.items (λ (p : PlacedChannel). p.info)))
