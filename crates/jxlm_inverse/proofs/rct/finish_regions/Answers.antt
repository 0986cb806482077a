use Rattle.std.proofs.Common.{[], ◌∷◌, ◌≡◌, subst, arith}
use Rattle.jxlm_inverse.specs.Inner.ColourRows.{FinishedUntil}
use Rattle.jxlm_inverse.proofs.ColourRegions.{three_still, until_start, until_more}
use Rattle.jxlm_inverse.proofs.rct.finish_regions.Goals as goal

pub loop-y-init : goal.loop-y-init
loop-y-init g c = record {
  three = c.requires.three;
  until = until_start c.args.regions.first c.args.regions.second c.args.regions.third g.S.Sealed.to_int g.S.Sealed.width c.args.kind.ty c.args.kind.permutation c.args.store.now;
}

pub loop-y-preserved : goal.loop-y-preserved
loop-y-preserved g c =
    let until = until_more c.args.regions.first c.args.regions.second c.args.regions.third g.S.Sealed.to_int g.S.Sealed.width c.args.kind.ty c.args.kind.permutation
    c.loop-y.y c.args.store.now c.loop-y.store c.finish_row.new.store c.requires.three c.loop-y-test.true c.loop-y.invariant.until c.finish_row.ensures in
    record {
      three = three_still c.args.regions.first c.args.regions.second c.args.regions.third (c.args.regions.first ∷ c.args.regions.second ∷ c.args.regions.third ∷ []) c.args.store.now c.finish_row.new.store until.keeps c.requires.three;
      until = until;
    }

pub returns : goal.returns
returns g c =
    let end = c.loop-y.auto.y-end in
    let all : c.loop-y.y ≡ c.args.regions.first.height = omega (arith, end, c.loop-y-test.false) in
    subst (λ n. FinishedUntil c.args.regions.first c.args.regions.second c.args.regions.third g.S.Sealed.to_int g.S.Sealed.width c.args.kind.ty c.args.kind.permutation n c.args.store.now c.loop-y.store) all c.loop-y.invariant.until
