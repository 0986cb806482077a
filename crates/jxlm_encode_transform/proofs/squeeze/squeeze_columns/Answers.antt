use Rattle.std.proofs.Common.{◌≡◌, ◌≤◌, ◌+◌, ◌*◌, ℕ, [], ◌∷◌, length, subst, arith}
use Rattle.jxlm_base.proofs.Outside.{lies_still}
use Rattle.jxlm_encode_transform.specs.Inner.Squeezed.{SqueezedColumns, strip_of}
use Rattle.jxlm_encode_transform.proofs.Squeezed.{columns_start, columns_more, strip_lies}
use Rattle.jxlm_encode_transform.proofs.StripSteps.{fewer_columns}
use Rattle.jxlm_encode_transform.proofs.squeeze.squeeze_columns.Goals as goal

pub loop-x-init : goal.loop-x-init
loop-x-init g c = record {
  within = omega arith;
  squeezed = columns_start g.S.Sealed.to_int g.S.Sealed.width c.args.region c.args.store.now;
}

pub strip_of-strip-requires-clause-lies : goal.strip_of-strip-requires-clause-lies
strip_of-strip-requires-clause-lies g c κs within = lies_still (c.args.region ∷ []) c.args.store.now c.loop-x.store c.args.region c.loop-x.invariant.squeezed.keeps c.requires.lies

pub overflow_mul-count : goal.overflow_mul-count
overflow_mul-count g c =
    let least = c.min-columns.ensures in
    let fits : c.args.region.height * c.columns_for-most.result ≤ length c.args.scratch.now = c.columns_for-most.ensures.fits in
    let bound = fewer_columns c.args.region.height c.min-columns.result c.columns_for-most.result (length c.args.scratch.now) (omega (arith, least)) fits in
    omega (arith, bound)

pub squeeze_strip-requires-clause-lies : goal.squeeze_strip-requires-clause-lies
squeeze_strip-requires-clause-lies g c κs within =
    let least = c.min-columns.ensures in
    rw c.strip_of-strip.ensures
    (strip_lies g.S.Sealed.to_int g.S.Sealed.width c.args.region c.loop-x.x c.min-columns.result c.loop-x.store (omega (arith, least, c.loop-x-test.true))
    (lies_still (c.args.region ∷ []) c.args.store.now c.loop-x.store c.args.region c.loop-x.invariant.squeezed.keeps c.requires.lies))

pub loop-x-preserved : goal.loop-x-preserved
loop-x-preserved g c =
    let f = g.S.Sealed.to_int in
    let w = g.S.Sealed.width in
    let r = c.args.region in
    let k : ℕ = c.loop-x.x in
    let n : ℕ = c.min-columns.result in
    let least = c.min-columns.ensures in
    let fits : k + n ≤ r.width = omega (arith, least, c.loop-x-test.true) in
    let lies = lies_still (r ∷ []) c.args.store.now c.loop-x.store r c.loop-x.invariant.squeezed.keeps c.requires.lies in
    let is = c.strip_of-strip.ensures in
    let one : SqueezedColumns f w (strip_of r k n) n c.loop-x.store c.squeeze_strip.new.store =
    subst (λ q. SqueezedColumns f w q q.width c.loop-x.store c.squeeze_strip.new.store) is c.squeeze_strip.ensures in
    record {
      within = fits;
      squeezed = columns_more f w r k n c.args.store.now c.loop-x.store c.squeeze_strip.new.store fits lies c.loop-x.invariant.squeezed one;
    }

pub returns : goal.returns
returns g c =
    let within = c.loop-x.invariant.within in
    let all : c.loop-x.x ≡ c.args.region.width = omega (arith, within, c.loop-x-test.false) in
    subst (λ n. SqueezedColumns g.S.Sealed.to_int g.S.Sealed.width c.args.region n c.args.store.now c.loop-x.store) all c.loop-x.invariant.squeezed
