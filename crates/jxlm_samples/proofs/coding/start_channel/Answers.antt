use Rattle.std.proofs.Common.{◌-◌, [], arith, rules, ap, not, ◌∙◌}
use Rattle.jxlm_samples.proofs.CellLaws.{asked_is, narrow_at, same_weights, weights_are}
use Rattle.jxlm_samples.proofs.Starting.{as_many_channels, comes_after_alike, has_room_for_next, room_for_last, set_by_last, set_for_all, set_for_none, somewhere}
use Rattle.jxlm_samples.proofs.coding.start_channel.Goals as goal

pub bounds-coding-before-then-last-here : goal.bounds-coding-before-then-last-here
bounds-coding-before-then-last-here g c = let n = as_many_channels c.args.coding.now in omega (arith, n, c.requires.next.channel)

pub bounds-coding-i-then-last-here : goal.bounds-coding-i-then-last-here
bounds-coding-i-then-last-here g c = let n = as_many_channels c.args.coding.now in omega (arith, n, c.requires.next.channel)

pub restart_alike-requires : goal.restart_alike-requires
restart_alike-requires g c =
    let last = comes_after_alike c.requires.next _ _ _ _ c.if-here-gt0.true (c.is_none.ensures ∙ ap not c.if-is_none.true) c.if-last-gt0.true c.if-is_alike.ensures in
    record { stands = somewhere c.args.coding.now (c.args.i - 1) c.args.state.now last.stood }

pub add_earlier-requires : goal.add_earlier-requires
add_earlier-requires g c =
    let last = comes_after_alike c.requires.next _ _ _ _ c.if-here-gt0.true (c.is_none.ensures ∙ ap not c.if-is_none.true) c.if-last-gt0.true c.if-is_alike.ensures in
    room_for_last last c.requires.next.channel c.restart_alike.new.self c.restart_alike.ensures.same c.restart_alike.ensures.room c.requires.next.roomy

pub returns-then-is_alike-clause-stands : goal.returns-then-is_alike-clause-stands
returns-then-is_alike-clause-stands g c = λ store.
    let last = comes_after_alike c.requires.next _ _ _ _ c.if-here-gt0.true (c.is_none.ensures ∙ ap not c.if-is_none.true) c.if-last-gt0.true c.if-is_alike.ensures in
    let weights = same_weights c.args.coding.now c.requires.next.coding (c.args.i - 1) c.args.i (omega (arith, c.requires.next.channel)) c.requires.next.channel c.index-coding-before.result c.index-coding-i.result (search rules) in
    set_by_last last c.requires.next.channel c.restart_alike.new.self c.requires.next.coding weights c.add_earlier.new.self c.restart_alike.ensures.stands (rw c.region.ensures at c.add_earlier.ensures.stands)

pub overflow_cast-region : goal.overflow_cast-region
overflow_cast-region g c = let n = (narrow_at c.args.coding.now c.requires.next.coding c.args.i c.requires.next.channel).0 in rw c.region-2.ensures (search (rules, n))

pub restart_by-requires-clause-roomy : goal.restart_by-requires-clause-roomy
restart_by-requires-clause-roomy g c = rw c.region-2.ensures (has_room_for_next c.requires.next c.requires.walked)

pub returns-then-here-gt0-2-clause-stands : goal.returns-then-here-gt0-2-clause-stands
returns-then-here-gt0-2-clause-stands g c = λ store.
    let is = asked_is c.args.coding.now c.requires.next.coding c.args.i c.requires.next.channel c.index-coding-i.result in
    set_for_all c.args.coding.now c.args.i c.add_all_earlier.new.state _ (weights_are c.args.coding.now c.requires.next.coding c.args.i c.requires.next.channel _ _ c.requires.next.roomy.weights) (omega (arith, is, c.if-here-gt0-2.true)) (c.add_all_earlier.ensures.stands _ [] (rw c.region-2.ensures at c.restart_by.ensures.stands))

pub returns-else-here-gt0-2-clause-stands : goal.returns-else-here-gt0-2-clause-stands
returns-else-here-gt0-2-clause-stands g c = λ store.
    let is = asked_is c.args.coding.now c.requires.next.coding c.args.i c.requires.next.channel c.index-coding-i.result in
    set_for_none c.args.coding.now c.args.i c.restart_by.new.self _ (weights_are c.args.coding.now c.requires.next.coding c.args.i c.requires.next.channel _ _ c.requires.next.roomy.weights) (omega (arith, is, c.if-here-gt0-2.false)) (rw c.region-2.ensures at c.restart_by.ensures.stands)
