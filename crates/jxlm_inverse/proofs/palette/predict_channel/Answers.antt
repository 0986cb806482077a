use Rattle.std.proofs.Common.{◌≡◌, ◌*◌, [], ◌∷◌, refl, ap, arith}
use Rattle.jxlm_base.specs.Regions.{store_meanings}
use Rattle.jxlm_base.proofs.Outside.{keeps_all, keeps_both}
use Rattle.jxlm_inverse.specs.Inner.PaletteSteps.{index_in, table_in}
use Rattle.jxlm_inverse.proofs.PaletteSteps.{channel_lies_still, channel_finished, fills_by_between, same_room_on, nothing_filled}
use Rattle.jxlm_inverse.proofs.palette.predict_channel.Goals as goal

pub loop-y-init : goal.loop-y-init
loop-y-init g c =
    let p = c.args.channel in
    let t = c.args.palette.now in
    let ints = store_meanings g.S.Sealed.to_int c.args.store.now in
    record {
      keeps = keeps_all (p.target ∷ []) c.args.store.now;
      room = record { same_room = refl; same_earlier_room = refl; same_weights = refl };
      stands = record { before = []; count = omega arith; stands = c.requires.stands };
      fills = fills_by_between g.S.Sealed.width c.args.bit_depth t p ints ints 0 0 (0 * p.index.width) c.args.state.now c.args.state.now (λ table index f s. (f, s)) (omega arith);
    }

pub predict_row-requires-clause-lies : goal.predict_row-requires-clause-lies
predict_row-requires-clause-lies g c κs within =
    let p = c.args.channel in
    channel_lies_still g.S.Sealed.to_int c.args.palette.now p c.args.store.now c.loop-y.store c.loop-y.invariant.keeps c.requires.lies

pub loop-y-preserved : goal.loop-y-preserved
loop-y-preserved g c =
    let p = c.args.channel in
    record {
      room = same_room_on c.args.state.now c.loop-y.state c.predict_row.new.state c.loop-y.invariant.room c.predict_row.ensures.room;
      keeps = keeps_both (p.target ∷ []) c.args.store.now c.loop-y.store c.predict_row.new.store c.loop-y.invariant.keeps c.predict_row.ensures.keeps;
      stands = c.predict_row.ensures.stands;
      fills = λ table index f s.
          let before = c.loop-y.invariant.fills table index f s in
          c.predict_row.ensures.fills table index before.0 before.1;
    }

pub returns-clause-finished : goal.returns-clause-finished
returns-clause-finished g c =
    let p = c.args.channel in
    let t = c.args.palette.now in
    let to_int = g.S.Sealed.to_int in
    let w = g.S.Sealed.width in
    let old = store_meanings to_int c.args.store.now in
    let all : c.loop-y.y ≡ p.index.height = let end = c.loop-y.auto.y-end in omega (arith, end, c.loop-y-test.false) in
    channel_finished to_int t p w c.args.bit_depth c.args.store.now c.loop-y.store c.requires.lies (c.loop-y.y * p.index.width) (ap (λ n. n * p.index.width) all)
    ((c.loop-y.invariant.fills (table_in p old) (index_in p old) (nothing_filled to_int t p w c.args.bit_depth old) c.requires.stands).0)
