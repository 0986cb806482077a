use Rattle.std.proofs.Common.{◌≡◌, ◌+◌, ◌-◌, [], ◌∷◌, length, sym, subst, arith}
use Rattle.jxlm_base.specs.Regions.{grid_of, store_meanings}
use Rattle.jxlm_base.specs.Outside.{KeepsOutside}
use Rattle.jxlm_inverse.specs.Palette.{finished_channel}
use Rattle.jxlm_inverse.specs.Inner.PaletteSteps.{ChannelLies, ChannelsDone, IsSimple, index_in, table_in}
use Rattle.jxlm_inverse.proofs.PaletteChannels.{channel_lies, none_done, one_done}
use Rattle.jxlm_inverse.proofs.palette.look_up_all.Goals as goal

pub loop-i-init : goal.loop-i-init
loop-i-init g c = λ depth.
    let start : length c.args.finished.now ≡ length c.args.finished.now - 0 = omega arith in
    subst (λ n. ChannelsDone g.S.Sealed.to_int g.S.Sealed.width depth c.args.palette.now c.args.table c.args.index c.args.finished.now n c.args.store.now c.args.store.now) start
    (none_done g.S.Sealed.to_int g.S.Sealed.width c.args.palette.now c.args.table c.args.index c.args.finished.now c.args.store.now c.requires.lies depth)

pub look_up_channel-requires-clause-lies : goal.look_up_channel-requires-clause-lies
look_up_channel-requires-clause-lies g c κs within =
    let to_int = g.S.Sealed.to_int in
    let t = c.args.palette.now in
    let count = length c.args.finished.now in
    let m = count - 1 - c.loop-i.i in
    let done = c.loop-i.invariant 0 in
    subst (λ p. ChannelLies t p c.loop-i.store) (sym c.from_last-channel.ensures)
    (channel_lies to_int g.S.Sealed.width t c.args.table c.args.index c.args.finished.now c.args.store.now c.requires.lies m (omega arith) c.loop-i.store done.keeps)

pub look_up_channel-requires-clause-simple : goal.look_up_channel-requires-clause-simple
look_up_channel-requires-clause-simple g c κs within =
    let to_int = g.S.Sealed.to_int in
    let t = c.args.palette.now in
    let count = length c.args.finished.now in
    let m = count - 1 - c.loop-i.i in
    let done = c.loop-i.invariant 0 in
    subst (λ p. IsSimple t (index_in p (store_meanings to_int c.loop-i.store))) (sym c.from_last-channel.ensures)
    (subst (IsSimple t) (sym (done.index_is (omega arith))) c.requires.simple)

pub loop-i-preserved : goal.loop-i-preserved
loop-i-preserved g c = λ depth.
    let to_int = g.S.Sealed.to_int in
    let w = g.S.Sealed.width in
    let t = c.args.palette.now in
    let finished = c.args.finished.now in
    let m = length finished - 1 - c.loop-i.i in
    let now = c.loop-i.store in
    let new = c.look_up_channel.new.store in
    let next : length finished - (c.loop-i.i + 1) ≡ m = omega arith in
    subst (λ n. ChannelsDone to_int w depth t c.args.table c.args.index finished n c.args.store.now new) (sym next)
    (one_done to_int w t c.args.table c.args.index finished c.args.store.now c.requires.lies depth m (length finished - c.loop-i.i) now new (omega arith) (c.loop-i.invariant depth)
    (subst (λ p. KeepsOutside (p.target ∷ []) now new) c.from_last-channel.ensures c.look_up_channel.ensures.keeps)
    (subst (λ p. grid_of (store_meanings to_int new) p.target ≡ finished_channel w depth t (table_in p (store_meanings to_int now)) (index_in p (store_meanings to_int now)) p.number) c.from_last-channel.ensures (c.look_up_channel.ensures.finished depth)))

pub returns : goal.returns
returns g c = λ depth.
    let end = c.loop-i.auto.i-end in
    let none : length c.args.finished.now - c.loop-i.i ≡ 0 = omega (arith, end, c.loop-i-test.false) in
    subst (λ n. ChannelsDone g.S.Sealed.to_int g.S.Sealed.width depth c.args.palette.now c.args.table c.args.index c.args.finished.now n c.args.store.now c.loop-i.store) none (c.loop-i.invariant depth)
