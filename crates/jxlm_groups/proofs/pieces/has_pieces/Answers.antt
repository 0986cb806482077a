use Rattle.std.proofs.Common.{◌∙◌, ◌<◌, ◌≤◌, ap, refl, subst}
use Rattle.jxlm_transform.specs.ChannelSteps.{table_channel}
use Rattle.jxlm_transform.specs.Lists.{list_of}
use Rattle.jxlm_groups.specs.Cutting.{kind_of}
use Rattle.jxlm_groups.specs.Pieces.{piece_in}
use Rattle.jxlm_groups.proofs.SomeCells.{none_after, some_here, some_later}
use Rattle.jxlm_groups.proofs.pieces.has_pieces.Goals as goal

pub returns-then-has_some : goal.returns-then-has_some
returns-then-has_some c =
    let a = c.args in
    let is = c.channel_at-channel.ensures (table_channel 0 0) in
    let here = some_here a.group_dim a.passes.now c.global_count-count.result a.part (list_of a.channels.now).channels c.loop-n.n (table_channel 0 0) c.kind_of-kind.result _
    (subst (λ m. c.loop-n.n < m) c.count_of-n-end.ensures c.loop-n-test.true) (c.kind_of-kind.ensures ∙ ap (kind_of a.passes.now c.global_count-count.result c.loop-n.n) is)
    (c.piece_in.ensures.piece ∙ ap (piece_in a.group_dim c.kind_of-kind.result a.part c.loop-n.n) is) (c.if-has_some.ensures.0 refl) in
    (λ _. c.loop-n.invariant.1.1 here, λ _. refl)

pub loop-n-preserved : goal.loop-n-preserved
loop-n-preserved c =
    let a = c.args in
    let is = c.channel_at-channel.ensures (table_channel 0 0) in
    let inv = c.loop-n.invariant in
    let later = some_later a.group_dim a.passes.now c.global_count-count.result a.part (list_of a.channels.now).channels c.loop-n.n (table_channel 0 0) c.kind_of-kind.result _
    (subst (λ m. c.loop-n.n < m) c.count_of-n-end.ensures c.loop-n-test.true) (c.kind_of-kind.ensures ∙ ap (kind_of a.passes.now c.global_count-count.result c.loop-n.n) is)
    (c.piece_in.ensures.piece ∙ ap (piece_in a.group_dim c.kind_of-kind.result a.part c.loop-n.n) is) (λ h. let t = c.if-has_some.ensures.1 h in cc) in
    (inv.0, (λ h. later.0 (inv.1.0 h), λ h. inv.1.1 (later.1 h)))

pub returns : goal.returns
returns c =
    let a = c.args in
    let past = subst (λ m. m ≤ c.loop-n.n) c.count_of-n-end.ensures c.loop-n-test.false in
    (λ t. cc, λ h. absurd (none_after a.group_dim a.passes.now c.global_count-count.result a.part (list_of a.channels.now).channels c.loop-n.n past (c.loop-n.invariant.1.0 h)))
