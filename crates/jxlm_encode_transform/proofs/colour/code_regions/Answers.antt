use Rattle.std.proofs.Common.{[], ◌∷◌, ◌≡◌, subst, arith}
use Rattle.jxlm_encode_transform.specs.Inner.Coded.{CodedUntil}
use Rattle.jxlm_encode_transform.proofs.Coded.{three_still, until_start, until_more}
use Rattle.jxlm_encode_transform.proofs.colour.code_regions.Goals as goal

pub loop-y-init : goal.loop-y-init
loop-y-init g c = until_start c.args.regions.first c.args.regions.second c.args.regions.third g.S.Sealed.to_int g.S.Sealed.width c.args.kind c.args.store.now

pub code_row-requires-clause-three : goal.code_row-requires-clause-three
code_row-requires-clause-three g c κs within =
    three_still c.args.regions.first c.args.regions.second c.args.regions.third (c.args.regions.first ∷ c.args.regions.second ∷ c.args.regions.third ∷ []) c.args.store.now c.loop-y.store c.loop-y.invariant.keeps c.requires.three

pub loop-y-preserved : goal.loop-y-preserved
loop-y-preserved g c =
    let three = three_still c.args.regions.first c.args.regions.second c.args.regions.third (c.args.regions.first ∷ c.args.regions.second ∷ c.args.regions.third ∷ []) c.args.store.now c.loop-y.store c.loop-y.invariant.keeps c.requires.three in
    until_more c.args.regions.first c.args.regions.second c.args.regions.third g.S.Sealed.to_int g.S.Sealed.width c.args.kind
    c.loop-y.y c.args.store.now c.loop-y.store c.code_row.new.store three c.loop-y-test.true c.loop-y.invariant c.code_row.ensures.coded

pub returns : goal.returns
returns g c =
    let end = c.loop-y.auto.y-end in
    let all : c.loop-y.y ≡ c.args.regions.first.height = omega (arith, end, c.loop-y-test.false) in
    subst (λ n. CodedUntil c.args.regions.first c.args.regions.second c.args.regions.third g.S.Sealed.to_int g.S.Sealed.width c.args.kind n c.args.store.now c.loop-y.store) all c.loop-y.invariant
