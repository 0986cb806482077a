use Rattle.std.proofs.Common.{◌≡◌, true, rules, tests}
use Rattle.std.specs.Prelude.{nat_lt, ◌||◌}
use Rattle.jxlm_transform.specs.ChannelSteps.{step_of_all}
use Rattle.jxlm_transform.proofs.Halvings.{round}
use Rattle.jxlm_chain.proofs.default_squeeze.add_in_turn.Goals as goal
use Rattle.jxlm_chain.proofs.default_squeeze.add_in_turn.Goals.{then-width-gt-SMALL_SIDE, else-width-gt-SMALL_SIDE+then-height-gt-SMALL_SIDE}

pub loop-width-preserved : goal.loop-width-preserved
loop-width-preserved c =
    let some : nat_lt 8 c.loop-width.width || nat_lt 8 c.loop-width.height ≡ true =
    elim c.if-width-gt-SMALL_SIDE.branch [ then-width-gt-SMALL_SIDE w ↦ search (rules, tests) | else-width-gt-SMALL_SIDE+then-height-gt-SMALL_SIDE w ↦ search (rules, tests) ] in
    round c.loop-width.width c.loop-width.height c.in_ok-width.width c.in_ok-height.height (step_of_all c.args.first c.args.count) c.loop-width.steps.items c.add_halving.new.steps.items c.add_halving-in-loop-width.new.steps.items _
    some c.in_ok-width.ensures.side c.in_ok-height.ensures.side (rw c.step_of_all.ensures at c.in_ok-width.ensures.steps) (rw c.step_of_all-in-loop-width.ensures at c.in_ok-height.ensures.steps) c.loop-width.invariant
