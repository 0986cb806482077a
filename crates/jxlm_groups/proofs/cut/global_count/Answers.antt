use Rattle.std.proofs.Common.{◌≡◌, ◌∙◌, ◌+◌, ◌<◌, ◌≤◌, length, refl, sym, ap, subst, true, false, arith}
use Rattle.std.specs.List.{prefix_len}
use Rattle.std.proofs.lemmas.List.{drop_all}
use Rattle.jxlm_transform.specs.Lists.{list_of}
use Rattle.jxlm_groups.specs.Cutting.{fits_group}
use Rattle.jxlm_groups.proofs.AtChannel.{drop_at}
use Rattle.jxlm_groups.proofs.cut.global_count.Goals as goal

pub loop-count-init : goal.loop-count-init
loop-count-init c = refl

pub loop-count-smaller : goal.loop-count-smaller
loop-count-smaller c = omega (arith, c.loop-count-test.true, c.count_of.ensures)

pub loop-count-preserved : goal.loop-count-preserved
loop-count-preserved c =
    let cs = (list_of c.args.channels.now).channels in
    let n = c.loop-count.count in
    let there : n < length cs = subst (λ m. n < m) c.count_of.ensures c.loop-count-test.true in
    let fits : fits_group c.args.group_dim c.channel_at.result.now ≡ true = sym c.fits_group.ensures ∙ c.if-fits_group.true in
    c.loop-count.invariant ∙ ap (λ ys. n + prefix_len (fits_group c.args.group_dim) ys) (drop_at cs n c.channel_at.result.now there c.channel_at.ensures) ∙ rw fits (omega arith)

pub returns-else-fits_group : goal.returns-else-fits_group
returns-else-fits_group c =
    let cs = (list_of c.args.channels.now).channels in
    let n = c.loop-count.count in
    let there : n < length cs = subst (λ m. n < m) c.count_of.ensures c.loop-count-test.true in
    let fits : fits_group c.args.group_dim c.channel_at.result.now ≡ false = sym c.fits_group.ensures ∙ c.if-fits_group.false in
    sym (c.loop-count.invariant ∙ ap (λ ys. n + prefix_len (fits_group c.args.group_dim) ys) (drop_at cs n c.channel_at.result.now there c.channel_at.ensures) ∙ rw fits (omega arith))

pub returns-after-loop-count : goal.returns-after-loop-count
returns-after-loop-count c =
    let cs = (list_of c.args.channels.now).channels in
    let n = c.loop-count.count in
    let past : length cs ≤ n = subst (λ m. m ≤ n) c.count_of.ensures c.loop-count-test.false in
    sym (c.loop-count.invariant ∙ ap (λ ys. n + prefix_len (fits_group c.args.group_dim) ys) (drop_all n cs past) ∙ omega arith)
