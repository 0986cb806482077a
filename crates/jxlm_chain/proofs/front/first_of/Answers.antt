use Rattle.std.proofs.Common.{ap, take, ◌∙◌}
use Rattle.jxlm_chain.proofs.ListsOfPlaced.{first_end}
use Rattle.jxlm_chain.proofs.front.first_of.Goals as goal

pub invariant_of-result : goal.invariant_of-result
invariant_of-result c =
    let old = c.args.channels.now in
    record { ends = first_end c.args.count old.placed.items c.in_ok-placed.placed.items (c.in_ok-placed.ensures.items ∙ ap (take c.args.count) c.deref.ensures.value) old.ends }
