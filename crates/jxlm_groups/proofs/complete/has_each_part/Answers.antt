use Rattle.std.proofs.Common.{◌≡◌, ◌∙◌, ◌<◌, ◌≤◌, ◌↔◌, Bool, true, false, refl, ap, subst}
use Rattle.std.specs.Prelude.{IsTrue}
use Rattle.jxlm_transform.specs.Channels.{Channel}
use Rattle.jxlm_transform.specs.ChannelSteps.{table_channel}
use Rattle.jxlm_transform.specs.Lists.{list_of}
use Rattle.jxlm_groups.specs.Cutting.{kind_of}
use Rattle.jxlm_groups.specs.Inner.Holding.{HoldsEachOf}
use Rattle.jxlm_groups.proofs.EachPart.{after_all, one_missing, one_more}
use Rattle.jxlm_groups.proofs.complete.has_each_part.Goals as goal

pub loop-n-preserved : goal.loop-n-preserved
loop-n-preserved c =
    let a = c.args in
    let is = c.channel_at-channel.ensures (table_channel 0 0) in
    record {
      count = c.loop-n.invariant.count;
      held = one_more a.group_dim a.passes.now (list_of a.channels.now) a.parts.now c.global_count-count.result c.loop-n.n (table_channel 0 0) c.kind_of-kind.result _
          (c.kind_of-kind.ensures ∙ ap (kind_of a.passes.now c.global_count-count.result c.loop-n.n) is) (subst (λ m. c.loop-n.n < m) c.count_of-n-end.ensures c.loop-n-test.true)
          (subst (λ (x : Channel). IsTrue c.has_parts_of.result ↔ HoldsEachOf a.group_dim c.kind_of-kind.result c.loop-n.n x a.parts.now) is c.has_parts_of.ensures) c.if-not-has_parts_of.false c.loop-n.invariant.held;
    }

pub returns-then-not-has_parts_of : goal.returns-then-not-has_parts_of
returns-then-not-has_parts_of c =
    let a = c.args in
    let is = c.channel_at-channel.ensures (table_channel 0 0) in (
      λ e. absurd (never e),
      one_missing a.group_dim a.passes.now (list_of a.channels.now) a.parts.now c.global_count-count.result c.loop-n.n (table_channel 0 0) c.kind_of-kind.result _
          (c.kind_of-kind.ensures ∙ ap (kind_of a.passes.now c.global_count-count.result c.loop-n.n) is) (subst (λ m. c.loop-n.n < m) c.count_of-n-end.ensures c.loop-n-test.true)
          (subst (λ (x : Channel). IsTrue c.has_parts_of.result ↔ HoldsEachOf a.group_dim c.kind_of-kind.result c.loop-n.n x a.parts.now) is c.has_parts_of.ensures) c.loop-n.invariant.count c.if-not-has_parts_of.true,
    ) where
      never : ◌≡◌ {A = Bool} false true → ⊥
      never e = cc

pub returns : goal.returns
returns c =
    let a = c.args in (
      λ e. after_all a.group_dim a.passes.now (list_of a.channels.now) a.parts.now c.global_count-count.result c.loop-n.n c.loop-n.invariant.count (subst (λ m. m ≤ c.loop-n.n) c.count_of-n-end.ensures c.loop-n-test.false) c.loop-n.invariant.held,
      λ h. refl,
    )
