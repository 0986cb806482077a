use Rattle.std.proofs.Common.{◌≡◌, suc, ◌+◌, ◌<◌, ◌≤◌, ℤ, List, length, take, subst, arith}
use Rattle.std.specs.List.{All}
use Rattle.std.proofs.lemmas.List.{take_all}
use Rattle.jxlm_base.specs.Grid.{Grid, IsFull}
use Rattle.jxl_c_picture.proofs.Counts.{full_more}
use Rattle.jxl_c.proofs.cells.all_are_full.Goals as goal

pub loop-channel-preserved : goal.loop-channel-preserved
loop-channel-preserved c =
    let channels = c.args.channels.now in
    let i = c.loop-channel.channel-index in
    let lt : i < length channels = omega (arith, c.loop-channel-test.true, c.loop-channel.auto.channel-index-end) in
    let next : suc i ≡ i + 1 = omega arith in
    subst (λ n. All IsFull (take n channels)) next (full_more channels i c.channel-item.result lt c.channel-item.is c.width-columns.ensures.full c.loop-channel.invariant)

pub returns : goal.returns
returns c =
    let channels = c.args.channels.now in
    let le : length channels ≤ c.loop-channel.channel-index = omega (arith, c.loop-channel-test.false, c.loop-channel.auto.channel-index-end) in
    subst (λ (gs : List (Grid ℤ)). All IsFull gs) (take_all c.loop-channel.channel-index channels le) c.loop-channel.invariant
