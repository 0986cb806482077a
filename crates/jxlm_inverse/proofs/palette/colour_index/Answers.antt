use Rattle.std.proofs.Common.{◌≡◌, ◌<◌, ap, sym, ◌∙◌, arith, pos, true, false, ℤ, w32, to_z, FitsSigned}
use Rattle.std.specs.Prelude.{unsigned_abs, ◌-ℤ◌, ◌^◌}
use Rattle.std.specs.Int.Signed.{lt_z}
use Rattle.std.proofs.lemmas.Int.{to_z-of_z, to_z_pos, ints}
use Rattle.jxlm_inverse.proofs.PaletteColours.{index_first, index_kept, index_last, index_listed}
use Rattle.jxlm_inverse.proofs.palette.colour_index.Goals as goal

pub returns-then-not-palette : goal.returns-then-not-palette
returns-then-not-palette c = to_z-of_z w32 c.args.index c.ranges.index ∙ index_kept c.args.palette.now c.args.index c.if-not-palette.true

pub returns-then-index-lt0 : goal.returns-then-index-lt0
returns-then-index-lt0 c =
    let test : lt_z c.args.index (pos 0) ≡ true = ap (λ z. lt_z z (pos 0)) (sym (to_z-of_z w32 c.args.index c.ranges.index)) ∙ c.if-index-lt0.true in
    index_first c.args.palette.now c.args.index c.if-not-palette.false test

pub returns-then-unsigned_abs-palette : goal.returns-then-unsigned_abs-palette
returns-then-unsigned_abs-palette c =
    let test : lt_z c.args.index (pos 0) ≡ false = ap (λ z. lt_z z (pos 0)) (sym (to_z-of_z w32 c.args.index c.ranges.index)) ∙ c.if-index-lt0.false in
    let place : c.unsigned_abs.result ≡ unsigned_abs c.args.index = c.unsigned_abs.ensures.value ∙ ap (λ z. unsigned_abs z) (to_z-of_z w32 c.args.index c.ranges.index) in
    to_z-of_z w32 c.args.index c.ranges.index ∙ index_listed c.args.palette.now c.args.index c.unsigned_abs.result test place c.if-unsigned_abs-palette.true

pub returns-else-unsigned_abs-palette : goal.returns-else-unsigned_abs-palette
returns-else-unsigned_abs-palette c =
    let test : lt_z c.args.index (pos 0) ≡ false = ap (λ z. lt_z z (pos 0)) (sym (to_z-of_z w32 c.args.index c.ranges.index)) ∙ c.if-index-lt0.false in
    let place : c.unsigned_abs.result ≡ unsigned_abs c.args.index = c.unsigned_abs.ensures.value ∙ ap (λ z. unsigned_abs z) (to_z-of_z w32 c.args.index c.ranges.index) in
    let few : c.args.palette.now.nb_colours < 2 ^ 31 = omega (arith, place, c.ranges.index, c.unsigned_abs.ensures.bound, c.if-unsigned_abs-palette.false, ints) in
    let last : ℤ = to_z w32 c.args.palette.now.nb_colours -ℤ pos 1 in
    let fits : FitsSigned w32 last = omega (arith, ints, few) in
    to_z-of_z w32 last fits ∙ ap (λ z. z -ℤ pos 1) (to_z_pos w32 c.args.palette.now.nb_colours few) ∙ index_last c.args.palette.now c.args.index c.unsigned_abs.result c.if-not-palette.false test place c.if-unsigned_abs-palette.false
