use Rattle.std.proofs.Common.{refl}
use Rattle.std.proofs.lemmas.List.{take-append-drop, take-map}
use Rattle.jxlm_transform.specs.Channels.{infos, regions}
use Rattle.jxlm_chain.proofs.placed.PlacedChannels.front.Goals as goal

pub returns-clause-list : goal.returns-clause-list
returns-clause-list c =
    let xs = c.args.self.now.channels.placed.items in
    rw (c.new-placed.ensures.list, c.in_ok-channels.ensures.placed, ← take-map (λ p. p.info) c.args.count xs, take-append-drop c.args.count (infos xs)) refl

pub returns-clause-layout : goal.returns-clause-layout
returns-clause-layout c =
    let xs = c.args.self.now.channels.placed.items in
    rw (c.new-placed.ensures.list, c.in_ok-channels.ensures.placed, ← take-map (λ p. p.region) c.args.count xs, take-append-drop c.args.count (regions xs)) refl
