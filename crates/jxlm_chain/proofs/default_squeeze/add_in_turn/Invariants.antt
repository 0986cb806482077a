use Rattle.std.proofs.Common.{◌≡◌, ◌+◌, ◌++◌}
use Rattle.jxlm_transform.specs.ChannelSteps.{halvings, in_turn, step_of_all}
use Rattle.jxlm_chain.proofs.default_squeeze.add_in_turn.Given as goal

abbrev pub invariant-loop-width : goal.invariant-loop-width
invariant-loop-width l =
    l.steps.items ++ in_turn (halvings l.width) (halvings l.height) (step_of_all l.first l.count)
    ≡ l.fn.steps.items ++ in_turn (halvings l.fn.width) (halvings l.fn.height) (step_of_all l.first l.count)

abbrev pub decreases-loop-width : goal.decreases-loop-width
decreases-loop-width l = l.width + l.height
