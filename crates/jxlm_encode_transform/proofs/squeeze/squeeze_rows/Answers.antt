use Rattle.std.proofs.Common.{◌≡◌, [], ◌∷◌, subst, arith}
use Rattle.jxlm_base.proofs.Outside.{lies_still}
use Rattle.jxlm_encode_transform.specs.Inner.Squeezed.{SqueezedRows}
use Rattle.jxlm_encode_transform.proofs.Squeezed.{rows_start, rows_more}
use Rattle.jxlm_encode_transform.proofs.squeeze.squeeze_rows.Goals as goal

pub loop-y-init : goal.loop-y-init
loop-y-init g c = rows_start g.S.Sealed.to_int c.args.region g.S.Sealed.width c.args.store.now

pub squeeze_row-requires-clause-lies : goal.squeeze_row-requires-clause-lies
squeeze_row-requires-clause-lies g c κs within = lies_still (c.args.region ∷ []) c.args.store.now c.loop-y.store c.args.region c.loop-y.invariant.keeps c.requires.lies

pub loop-y-preserved : goal.loop-y-preserved
loop-y-preserved g c =
    let lies = lies_still (c.args.region ∷ []) c.args.store.now c.loop-y.store c.args.region c.loop-y.invariant.keeps c.requires.lies in
    rows_more g.S.Sealed.to_int c.args.region g.S.Sealed.width c.loop-y.y c.args.store.now c.loop-y.store c.squeeze_row.new.store lies c.loop-y-test.true c.loop-y.invariant c.squeeze_row.ensures.squeezed

pub returns : goal.returns
returns g c =
    let end = c.loop-y.auto.y-end in
    let all : c.loop-y.y ≡ c.args.region.height = omega (arith, end, c.loop-y-test.false) in
    subst (λ n. SqueezedRows g.S.Sealed.to_int g.S.Sealed.width c.args.region n c.args.store.now c.loop-y.store) all c.loop-y.invariant
