use Rattle.std.proofs.Common.{◌≡◌, ◌+◌, ◌<◌, ◌≤◌, length, sym, ap, subst, arith, rules, map}
use Rattle.std.specs.Prelude.{max}
use Rattle.std.specs.List.{enumerate_from}
use Rattle.std.proofs.lemmas.List.{drop_all}
use Rattle.jxlm_transform.specs.Lists.{list_of}
use Rattle.jxlm_groups.specs.Counts.{group_count, groups_of, maximum}
use Rattle.jxlm_groups.specs.Inner.Fitting.{count_from}
use Rattle.jxlm_groups.proofs.AtChannel.{drop_at}
use Rattle.jxlm_groups.proofs.cut.group_count.Goals as goal

pub loop-n-init : goal.loop-n-init
loop-n-init c =
    let a = c.args in
    let all : group_count a.group_dim a.passes.now (list_of a.channels.now) a.kind ≡ count_from a.group_dim a.passes.now c.global_count-count.result a.kind 0 (list_of a.channels.now).channels =
    ap (λ n. count_from a.group_dim a.passes.now n a.kind 0 (list_of a.channels.now).channels) (sym c.global_count-count.ensures) in
    (c.global_count-count.ensures, omega (arith, all))

pub loop-n-preserved : goal.loop-n-preserved
loop-n-preserved c =
    let a = c.args in
    let cs = (list_of a.channels.now).channels in
    let n = c.loop-n.n in
    let x = c.channel_at-channel.result.now in
    let count = c.global_count-count.result in
    let there : n < length cs = subst (λ m. n < m) c.count_of-n-end.ensures c.loop-n-test.true in
    let turn : count_from a.group_dim a.passes.now count a.kind n cs ≡ max (groups_of a.group_dim a.passes.now count a.kind (n, x)) (count_from a.group_dim a.passes.now count a.kind (n + 1) cs) =
    ap (λ ys. maximum (map (groups_of a.group_dim a.passes.now count a.kind) (enumerate_from n ys))) (drop_at cs n x there c.channel_at-channel.ensures) in
    let here = c.groups_of.ensures in
    let inv = c.loop-n.invariant.1 in
    let more : c.max-count_of_kind.result ≡ max c.loop-n.count_of_kind c.groups_of.result = search (rules, arith) in
    (c.loop-n.invariant.0, omega (arith, turn, here, inv, more))

pub returns : goal.returns
returns c =
    let a = c.args in
    let cs = (list_of a.channels.now).channels in
    let n = c.loop-n.n in
    let past : length cs ≤ n = subst (λ m. m ≤ n) c.count_of-n-end.ensures c.loop-n-test.false in
    let none : count_from a.group_dim a.passes.now c.global_count-count.result a.kind n cs ≡ 0 = ap (λ ys. maximum (map (groups_of a.group_dim a.passes.now c.global_count-count.result a.kind) (enumerate_from n ys))) (drop_all n cs past) in
    let inv = c.loop-n.invariant.1 in
    omega (arith, none, inv)
