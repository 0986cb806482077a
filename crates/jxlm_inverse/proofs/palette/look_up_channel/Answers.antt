use Rattle.std.proofs.Common.{◌≡◌, ◌*◌, [], ◌∷◌, refl, sym, ap, ◌∙◌, subst, arith}
use Rattle.jxlm_base.specs.Regions.{store_meanings}
use Rattle.jxlm_base.proofs.Outside.{keeps_all, keeps_both}
use Rattle.jxlm_inverse.specs.Inner.PaletteSteps.{IsSimpleIndex, index_in, table_in}
use Rattle.jxlm_inverse.proofs.PaletteSteps.{channel_lies_still, channel_finished, fills_between, later_index, nothing_filled}
use Rattle.jxlm_inverse.proofs.palette.look_up_channel.Goals as goal

pub loop-y-init : goal.loop-y-init
loop-y-init g c =
    let p = c.args.channel in
    let ints = store_meanings g.S.Sealed.to_int c.args.store.now in
    record {
      len = refl;
      keeps = keeps_all (p.target ∷ []) c.args.store.now;
      fills = λ depth. fills_between g.S.Sealed.width depth c.args.palette.now p ints ints 0 0 (0 * p.index.width) (λ table index f. f) (omega arith);
    }

pub look_up_row-requires-clause-lies : goal.look_up_row-requires-clause-lies
look_up_row-requires-clause-lies g c κs within =
    let p = c.args.channel in
    let t = c.args.palette.now in
    let to_int = g.S.Sealed.to_int in
    let y = c.loop-y.y in
    let old = store_meanings to_int c.args.store.now in
    let now = store_meanings to_int c.loop-y.store in
    let filled = c.loop-y.invariant.fills 0 (table_in p old) (index_in p old) (nothing_filled to_int t p g.S.Sealed.width 0 old) in
    channel_lies_still to_int t p c.args.store.now c.loop-y.store c.loop-y.invariant.keeps c.requires.lies

pub look_up_row-requires-clause-simple : goal.look_up_row-requires-clause-simple
look_up_row-requires-clause-simple g c κs within =
    let p = c.args.channel in
    let t = c.args.palette.now in
    let to_int = g.S.Sealed.to_int in
    let y = c.loop-y.y in
    let old = store_meanings to_int c.args.store.now in
    let now = store_meanings to_int c.loop-y.store in
    let filled = c.loop-y.invariant.fills 0 (table_in p old) (index_in p old) (nothing_filled to_int t p g.S.Sealed.width 0 old) in
    λ x h.
    subst (IsSimpleIndex t) (sym (later_index to_int t p now (y * p.index.width) x y (table_in p old) (index_in p old) filled.later_cells refl (omega arith))) (c.requires.simple y c.loop-y-test.true x h)

pub loop-y-preserved : goal.loop-y-preserved
loop-y-preserved g c =
    let p = c.args.channel in
    record {
      len = c.look_up_row.ensures.len ∙ c.loop-y.invariant.len;
      keeps = keeps_both (p.target ∷ []) c.args.store.now c.loop-y.store c.look_up_row.new.store c.loop-y.invariant.keeps c.look_up_row.ensures.keeps;
      fills = λ depth table index f. c.look_up_row.ensures.fills depth table index (c.loop-y.invariant.fills depth table index f);
    }

pub returns-clause-finished : goal.returns-clause-finished
returns-clause-finished g c =
    let p = c.args.channel in
    let t = c.args.palette.now in
    let to_int = g.S.Sealed.to_int in
    let w = g.S.Sealed.width in
    let old = store_meanings to_int c.args.store.now in
    let all : c.loop-y.y ≡ p.index.height = let end = c.loop-y.auto.y-end in omega (arith, end, c.loop-y-test.false) in
    λ depth. channel_finished to_int t p w depth c.args.store.now c.loop-y.store c.requires.lies (c.loop-y.y * p.index.width) (ap (λ n. n * p.index.width) all)
    (c.loop-y.invariant.fills depth (table_in p old) (index_in p old) (nothing_filled to_int t p w depth old))
