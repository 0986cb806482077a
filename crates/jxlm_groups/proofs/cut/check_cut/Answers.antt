use Rattle.std.proofs.Common.{◌≡◌, ◌∙◌, ◌<◌, ◌≤◌, length, drop, refl, sym, ap, subst, true, false}
use Rattle.std.specs.List.{list_all}
use Rattle.std.proofs.lemmas.List.{drop_all}
use Rattle.jxlm_transform.specs.Lists.{list_of}
use Rattle.jxlm_groups.specs.Cutting.{can_cut, has_cells}
use Rattle.jxlm_groups.proofs.AtChannel.{drop_at}
use Rattle.jxlm_groups.proofs.cut.check_cut.Goals as goal

pub loop-n-init : goal.loop-n-init
loop-n-init c = ap (λ n. list_all (has_cells c.args.group_dim) (drop n (list_of c.args.channels.now).channels)) (sym c.global_count-n.ensures)

pub returns-then-not-has_cells-clause-err : goal.returns-then-not-has_cells-clause-err
returns-then-not-has_cells-clause-err c =
    let cs = (list_of c.args.channels.now).channels in
    let n = c.loop-n.n in
    let there : n < length cs = subst (λ m. n < m) c.count_of-n-end.ensures c.loop-n-test.true in
    let cells : has_cells c.args.group_dim c.channel_at.result.now ≡ false = sym c.has_cells.ensures ∙ c.if-not-has_cells.true in
    (refl, c.loop-n.invariant ∙ ap (list_all (has_cells c.args.group_dim)) (drop_at cs n c.channel_at.result.now there c.channel_at.ensures) ∙ rw cells refl)

pub loop-n-preserved : goal.loop-n-preserved
loop-n-preserved c =
    let cs = (list_of c.args.channels.now).channels in
    let n = c.loop-n.n in
    let there : n < length cs = subst (λ m. n < m) c.count_of-n-end.ensures c.loop-n-test.true in
    let cells : has_cells c.args.group_dim c.channel_at.result.now ≡ true = sym c.has_cells.ensures ∙ c.if-not-has_cells.false in
    c.loop-n.invariant ∙ ap (list_all (has_cells c.args.group_dim)) (drop_at cs n c.channel_at.result.now there c.channel_at.ensures) ∙ rw cells refl

pub returns-clause-ok : goal.returns-clause-ok
returns-clause-ok c =
    let cs = (list_of c.args.channels.now).channels in
    let n = c.loop-n.n in
    let past : length cs ≤ n = subst (λ m. m ≤ n) c.count_of-n-end.ensures c.loop-n-test.false in
    let all : can_cut c.args.group_dim (list_of c.args.channels.now) ≡ true = c.loop-n.invariant ∙ ap (list_all (has_cells c.args.group_dim)) (drop_all n cs past) in
    all
