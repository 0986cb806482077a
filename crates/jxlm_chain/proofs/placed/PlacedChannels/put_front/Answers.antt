use Rattle.std.proofs.Common.{refl}
use Rattle.jxlm_chain.proofs.ListsOfPlaced.{joined, replaced_end}
use Rattle.jxlm_chain.proofs.placed.PlacedChannels.put_front.Goals as goal

pub invariant_of-self : goal.invariant_of-self
invariant_of-self c =
    let old = c.args.self.now.channels in
    let first = c.args.front.placed.channels in
    record { ends = replaced_end c.args.front.count first.placed.items old.placed.items c.replace_first.new.list.items c.replace_first.result c.replace_first.ensures.gives c.replace_first.ensures.unchanged first.ends old.ends }

pub returns-clause-list : goal.returns-clause-list
returns-clause-list c =
    rw (joined (λ p. p.info) c.args.front.count c.args.front.placed.channels.placed.items c.args.self.now.channels.placed.items c.replace_first.new.list.items c.in_ok-replace_first.ensures.gives) refl

pub returns-clause-layout : goal.returns-clause-layout
returns-clause-layout c =
    rw (joined (λ p. p.region) c.args.front.count c.args.front.placed.channels.placed.items c.args.self.now.channels.placed.items c.replace_first.new.list.items c.in_ok-replace_first.ensures.gives) refl
