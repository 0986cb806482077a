use Rattle.std.proofs.Common.{◌≡◌, ℕ, ℤ, suc, ◌-◌, ◌<◌, ◌∙◌, List, ap, arith, length, map, pos, sym}
use Rattle.std.specs.Prelude.{get_or}
use Rattle.std.proofs.lemmas.List.{get_or-map}
use Rattle.jxlm_samples.specs.Inner.Paths.{AreLeft}
use Rattle.jxlm_samples.proofs.GradientCells.{left_first, sample_above_is, zero_sample}
use Rattle.jxlm_samples.proofs.one_gradient.neighbours.Goals as goal

left_at : {X : Type 0} (to_int : X → ℤ) (above row : List X) (from k : ℕ) (w nw : X) → from ≡ suc k → k < length row → w ≡ get_or row k w → nw ≡ get_or above k w → AreLeft to_int above row from w nw
left_at to_int above row from k w nw next inside is up =
    let west : to_int w ≡ get_or (map to_int row) k (pos 0) = ap to_int is ∙ sym (get_or-map to_int row k w (pos 0) inside) in
    rw next (record { west = west; north_west = sample_above_is to_int above k nw w _ up west })

pub returns-then-from-eq0 : goal.returns-then-from-eq0
returns-then-from-eq0 g c =
    let zero = zero_sample g.S.Sealed.width g.S.Sealed.to_int g.S.Sealed.from_int g.met.S.Sealed.to_int_from_int c.from_i32.result c.from_i32.ensures in
    rw c.if-from-eq0.true (left_first _ _ c.sample_above-w.ensures zero)

pub returns-else-from-eq0 : goal.returns-else-from-eq0
returns-else-from-eq0 g c =
    left_at g.S.Sealed.to_int c.args.above.now c.args.row.now c.args.from (c.args.from - 1) c.index-row-from.result c.sample_above.result (omega (arith, c.if-from-eq0.false)) (omega (arith, c.requires.inside)) c.index-row-from.is c.sample_above.ensures
