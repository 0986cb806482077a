use Rattle.std.proofs.Common.{◌≡◌, ◌+◌, ◌*◌, ◌≤◌, [], ◌∷◌, length, take, drop, refl, subst, arith}
use Rattle.std.proofs.lemmas.List.{length-append, length-drop, length-take-le}
use Rattle.jxlm_base.specs.Regions.{store_meanings}
use Rattle.jxlm_base.proofs.Outside.{keeps_all, keeps_both}
use Rattle.jxlm_inverse.specs.Inner.PaletteSteps.{kept}
use Rattle.jxlm_inverse.proofs.PaletteSteps.{ahead_both, fills_between}
use Rattle.jxlm_inverse.proofs.palette.look_up_row.Goals as goal

pub loop-x-init : goal.loop-x-init
loop-x-init g c =
    let p = c.args.channel in
    let ints = store_meanings g.S.Sealed.to_int c.args.store.now in
    record {
      within = omega arith;
      len = refl;
      keeps = keeps_all (p.target ∷ []) c.args.store.now;
      kept = record { table_is = refl; indices = λ i l. refl };
      fills = λ depth. fills_between g.S.Sealed.width depth c.args.palette.now p ints ints (c.args.y * p.index.width) (c.args.y * p.index.width) (c.args.y * p.index.width + 0) (λ table index f. f) (omega arith);
    }

pub loop-x-preserved : goal.loop-x-preserved
loop-x-preserved g c =
    let p = c.args.channel in
    let t = c.args.palette.now in
    let to_int = g.S.Sealed.to_int in
    let w = g.S.Sealed.width in
    let x = c.loop-x.x in
    let n = c.min-count.result in
    let start = c.args.y * p.index.width in
    let old = store_meanings to_int c.args.store.now in
    let now = store_meanings to_int c.loop-x.store in
    let new = store_meanings to_int c.look_up_part.new.store in
    let inv = c.loop-x.invariant in
    let least = c.min-count.ensures in
    let within = inv.within in
    let len = inv.len in
    let fits : n ≤ length c.loop-x.line = omega (arith, least) in
    let count : length (take n c.loop-x.line) ≡ n = length-take-le n c.loop-x.line fits in
    let same : start + x + length (take n c.loop-x.line) ≡ start + (x + n) = omega (arith, count) in
    record {
      within = omega (arith, least, within);
      len = omega (arith, length-append c.look_up_part.new.line (drop n c.loop-x.line), length-drop n c.loop-x.line, c.look_up_part.ensures.len, count, fits, len);
      keeps = keeps_both (p.target ∷ []) c.args.store.now c.loop-x.store c.look_up_part.new.store inv.keeps c.look_up_part.ensures.keeps;
      kept = subst (λ k. kept p k old new) same (ahead_both to_int t p old now new (start + x) (start + x + length (take n c.loop-x.line)) (omega arith) inv.kept c.look_up_part.ensures.kept);
      fills = λ depth table index f.
          fills_between w depth t p now new (start + x) (start + x + length (take n c.loop-x.line)) (start + (x + n)) (c.look_up_part.ensures.fills depth) same table index (inv.fills depth table index f);
    }
