use Rattle.std.proofs.Common.{◌≡◌, ◌+◌, ◌*◌, [], ◌∷◌, refl, ap, ◌∙◌, subst, arith}
use Rattle.jxlm_base.specs.Regions.{store_meanings}
use Rattle.jxlm_base.proofs.Outside.{keeps_all, keeps_both}
use Rattle.jxlm_inverse.specs.Inner.PaletteSteps.{ChannelLies, StandsBefore}
use Rattle.jxlm_inverse.proofs.PaletteSteps.{cell_keeps, channel_lies_still, fills_by_between, same_room_on, predicted_fills, stands_further}
use Rattle.jxlm_inverse.proofs.palette.predict_row.Goals as goal

pub loop-x-init : goal.loop-x-init
loop-x-init g c =
    let p = c.args.channel in
    let t = c.args.palette.now in
    let ints = store_meanings g.S.Sealed.to_int c.args.store.now in
    let start : c.args.y * p.index.width ≡ c.args.y * p.index.width + 0 = omega arith in
    record {
      keeps = keeps_all (p.target ∷ []) c.args.store.now;
      room = record { same_room = refl; same_earlier_room = refl; same_weights = refl };
      stands = subst (λ n. StandsBefore t p.index.width n c.args.state.now) start c.requires.stands;
      fills = fills_by_between g.S.Sealed.width c.args.bit_depth t p ints ints (c.args.y * p.index.width) (c.args.y * p.index.width) (c.args.y * p.index.width + 0) c.args.state.now c.args.state.now (λ table index f s. (f, s)) start;
    }

pub predict_cell-requires-clause-lies : goal.predict_cell-requires-clause-lies
predict_cell-requires-clause-lies g c κs within =
    let p = c.args.channel in
    let t = c.args.palette.now in
    channel_lies_still g.S.Sealed.to_int t p c.args.store.now c.loop-x.store c.loop-x.invariant.keeps c.requires.lies

pub loop-x-preserved : goal.loop-x-preserved
loop-x-preserved g c =
    let p = c.args.channel in
    let t = c.args.palette.now in
    let to_int = g.S.Sealed.to_int in
    let w = g.S.Sealed.width in
    let x = c.loop-x.x in
    let y = c.args.y in
    let k = y * p.index.width + x in
    let lies : ChannelLies t p c.loop-x.store = channel_lies_still to_int t p c.args.store.now c.loop-x.store c.loop-x.invariant.keeps c.requires.lies in
    let more : y * p.index.width + (x + 1) ≡ k + 1 = omega arith in
    let stands = c.loop-x.invariant.stands in
    record {
      room = same_room_on c.args.state.now c.loop-x.state c.predict_cell.new.state c.loop-x.invariant.room c.predict_cell.ensures.room;
      keeps = keeps_both (p.target ∷ []) c.args.store.now c.loop-x.store c.predict_cell.new.store c.loop-x.invariant.keeps
          (cell_keeps to_int t p c.loop-x.store c.predict_cell.new.store x y _ lies c.loop-x-test.true c.requires.in_rows (c.predict_cell.ensures.sets stands.before stands.stands));
      stands = stands_further t p.index.width k (y * p.index.width + (x + 1)) c.loop-x.state c.predict_cell.new.state stands more _ (c.predict_cell.ensures.stands stands.before stands.stands);
      fills = λ table index f s.
          let before = c.loop-x.invariant.fills table index f s in
          predicted_fills to_int t p w c.args.bit_depth c.loop-x.store c.predict_cell.new.store c.loop-x.state c.predict_cell.new.state x y lies c.loop-x-test.true c.requires.in_rows k (y * p.index.width + (x + 1)) refl more
          (λ b h. (c.predict_cell.ensures.sets b h, c.predict_cell.ensures.stands b h)) table index before.0 before.1;
    }

pub returns-clause-fills : goal.returns-clause-fills
returns-clause-fills g c =
    let p = c.args.channel in
    let old = store_meanings g.S.Sealed.to_int c.args.store.now in
    let now = store_meanings g.S.Sealed.to_int c.loop-x.store in
    let all : c.loop-x.x ≡ p.index.width = let end = c.loop-x.auto.x-end in omega (arith, end, c.loop-x-test.false) in
    fills_by_between g.S.Sealed.width c.args.bit_depth c.args.palette.now p old now (c.args.y * p.index.width) (c.args.y * p.index.width + c.loop-x.x) ((c.args.y + 1) * p.index.width) c.args.state.now c.loop-x.state c.loop-x.invariant.fills
    (ap (λ n. c.args.y * p.index.width + n) all ∙ omega arith)

pub returns-clause-stands : goal.returns-clause-stands
returns-clause-stands g c =
    let p = c.args.channel in
    let all : c.loop-x.x ≡ p.index.width = let end = c.loop-x.auto.x-end in omega (arith, end, c.loop-x-test.false) in
    let done : c.args.y * p.index.width + c.loop-x.x ≡ (c.args.y + 1) * p.index.width = ap (λ n. c.args.y * p.index.width + n) all ∙ omega arith in
    subst (λ n. StandsBefore c.args.palette.now p.index.width n c.loop-x.state) done c.loop-x.invariant.stands
