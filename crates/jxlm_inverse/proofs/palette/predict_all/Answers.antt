use Rattle.std.proofs.Common.{◌≡◌, ◌+◌, ◌-◌, ◌^◌, ◌≤◌, [], ◌∷◌, length, refl, sym, ◌∙◌, subst, arith}
use Rattle.jxlm_base.specs.Regions.{grid_of, store_meanings}
use Rattle.jxlm_base.specs.Outside.{KeepsOutside}
use Rattle.jxlm_predictor.specs.Standing.{StandsAt, setting}
use Rattle.jxlm_inverse.specs.Palette.{finished_channel}
use Rattle.jxlm_inverse.specs.Inner.PaletteSteps.{ChannelLies, ChannelsDone, index_in, table_in}
use Rattle.jxlm_inverse.proofs.PaletteChannels.{channel_lies, none_done, one_done}
use Rattle.jxlm_inverse.proofs.PaletteSteps.{same_room_on}
use Rattle.jxlm_inverse.proofs.palette.predict_all.Goals as goal

pub loop-i-init : goal.loop-i-init
loop-i-init g c =
    let start : length c.args.finished.now ≡ length c.args.finished.now - 0 = omega arith in
    record {
      room = record { same_room = refl; same_earlier_room = refl; same_weights = refl };
      done = subst (λ n. ChannelsDone g.S.Sealed.to_int g.S.Sealed.width c.args.bit_depth c.args.palette.now c.args.table c.args.index c.args.finished.now n c.args.store.now c.args.store.now) start
          (none_done g.S.Sealed.to_int g.S.Sealed.width c.args.palette.now c.args.table c.args.index c.args.finished.now c.args.store.now c.requires.lies c.args.bit_depth);
    }

pub restart-requires : goal.restart-requires
restart-requires g c = record { some = c.requires.some; roomy = (let same = c.loop-i.invariant.room.same_room in let room = c.requires.roomy in omega arith) }

pub predict_channel-requires-clause-lies : goal.predict_channel-requires-clause-lies
predict_channel-requires-clause-lies g c κs within =
    let to_int = g.S.Sealed.to_int in
    let t = c.args.palette.now in
    let m = length c.args.finished.now - 1 - c.loop-i.i in
    subst (λ p. ChannelLies t p c.loop-i.store) (sym c.from_last-channel.ensures)
    (channel_lies to_int g.S.Sealed.width t c.args.table c.args.index c.args.finished.now c.args.store.now c.requires.lies m (omega arith) c.loop-i.store c.loop-i.invariant.done.keeps)

pub predict_channel-requires-clause-few_rows : goal.predict_channel-requires-clause-few_rows
predict_channel-requires-clause-few_rows g c κs within =
    let to_int = g.S.Sealed.to_int in
    let t = c.args.palette.now in
    let m = length c.args.finished.now - 1 - c.loop-i.i in
    subst (λ p. p.index.height ≤ 2 ^ 30) (sym c.from_last-channel.ensures) c.requires.few_rows

pub predict_channel-requires-clause-stands : goal.predict_channel-requires-clause-stands
predict_channel-requires-clause-stands g c κs within =
    let to_int = g.S.Sealed.to_int in
    let t = c.args.palette.now in
    let m = length c.args.finished.now - 1 - c.loop-i.i in
    subst (λ p. StandsAt c.restart.new.self (setting p.index.width t.wp_header []) []) (sym c.from_last-channel.ensures)
    (subst (λ h. StandsAt c.restart.new.self (setting c.args.index.width h []) []) (c.loop-i.invariant.room.same_weights ∙ c.requires.weights) c.restart.ensures.stands)

pub loop-i-preserved : goal.loop-i-preserved
loop-i-preserved g c =
    let to_int = g.S.Sealed.to_int in
    let w = g.S.Sealed.width in
    let depth = c.args.bit_depth in
    let t = c.args.palette.now in
    let finished = c.args.finished.now in
    let m = length finished - 1 - c.loop-i.i in
    let now = c.loop-i.store in
    let new = c.predict_channel.new.store in
    let next : length finished - (c.loop-i.i + 1) ≡ m = omega arith in
    record {
      room = same_room_on c.args.state.now c.loop-i.state c.predict_channel.new.state c.loop-i.invariant.room
          (same_room_on c.loop-i.state c.restart.new.self c.predict_channel.new.state c.restart.ensures.room c.predict_channel.ensures.room);
      done = subst (λ n. ChannelsDone to_int w depth t c.args.table c.args.index finished n c.args.store.now new) (sym next)
          (one_done to_int w t c.args.table c.args.index finished c.args.store.now c.requires.lies depth m (length finished - c.loop-i.i) now new (omega arith) c.loop-i.invariant.done
          (subst (λ p. KeepsOutside (p.target ∷ []) now new) c.from_last-channel.ensures c.predict_channel.ensures.keeps)
          (subst (λ p. grid_of (store_meanings to_int new) p.target ≡ finished_channel w depth t (table_in p (store_meanings to_int now)) (index_in p (store_meanings to_int now)) p.number) c.from_last-channel.ensures c.predict_channel.ensures.finished));
    }

pub returns-clause-done : goal.returns-clause-done
returns-clause-done g c =
    let end = c.loop-i.auto.i-end in
    let none : length c.args.finished.now - c.loop-i.i ≡ 0 = omega (arith, end, c.loop-i-test.false) in
    subst (λ n. ChannelsDone g.S.Sealed.to_int g.S.Sealed.width c.args.bit_depth c.args.palette.now c.args.table c.args.index c.args.finished.now n c.args.store.now c.loop-i.store) none c.loop-i.invariant.done
