use Rattle.std.proofs.Common.{◌≡◌, ◌∙◌, ap, arith}
use Rattle.std.specs.List.{sum}
use Rattle.jxl_coding_build.proofs.Quotients.{most_of, whole_set}
use Rattle.jxl_coding_build.proofs.normalise.normalise.Goals as goal

pub total_of-held-requires : goal.total_of-held-requires
total_of-held-requires c =
    let m = most_of c.args.counts.now c.in_ok-shares.shares.items c.total_of-total.result c.used_of-used.result c.requires.some c.total_of-total.ensures c.used_of-used.ensures.many c.used_of-used.ensures.few c.in_ok-shares.ensures.most in
    let e = ap sum c.deref.ensures.value in
    omega (arith, m, e)

pub overflow_sub-held : goal.overflow_sub-held
overflow_sub-held c =
    let m = most_of c.args.counts.now c.in_ok-shares.shares.items c.total_of-total.result c.used_of-used.result c.requires.some c.total_of-total.ensures c.used_of-used.ensures.many c.used_of-used.ensures.few c.in_ok-shares.ensures.most in
    let e = ap sum c.deref.ensures.value in
    let h = c.total_of-held.ensures in
    omega (arith, m, e, h)

pub returns-clause-whole : goal.returns-clause-whole
returns-clause-whole c =
    let m = most_of c.args.counts.now c.in_ok-shares.shares.items c.total_of-total.result c.used_of-used.result c.requires.some c.total_of-total.ensures c.used_of-used.ensures.many c.used_of-used.ensures.few c.in_ok-shares.ensures.most in
    let e : c.total_of-held.result ≡ sum c.in_ok-shares.shares.items = c.total_of-held.ensures ∙ ap sum c.deref.ensures.value in
    let n = c.in_ok-shares.ensures.many in
    let t = c.top_of-top.ensures.inside in
    whole_set c.in_ok-shares.shares.items c.top_of-top.result c.index_mut.result.now c.total_of-held.result (omega (arith, n, t)) c.index_mut.ensures.value e (omega (arith, m, e))
