use Rattle.std.proofs.Common.{◌≡◌, ◌-◌, ap, sym, ◌∙◌, arith, rules, pos, true, false, w32, w64, FitsSigned}
use Rattle.std.specs.Int.Signed.{lt_z}
use Rattle.std.specs.Prelude.{unsigned_abs}
use Rattle.std.proofs.lemmas.Int.{to_z-of_z, to_z_pos, fits_signed_from_abs, ints}
use Rattle.jxlm_base.specs.Regions.{grid_of, store_meanings}
use Rattle.jxlm_inverse.proofs.PaletteColours.{colour_implicit, colour_listed, colour_negative}
use Rattle.jxlm_inverse.proofs.palette.colour.Goals as goal

pub returns-then-index-lt0-clause-value : goal.returns-then-index-lt0-clause-value
returns-then-index-lt0-clause-value g c =
    let test : lt_z c.args.index (pos 0) ≡ true = ap (λ z. lt_z z (pos 0)) (sym (to_z-of_z w32 c.args.index c.ranges.index)) ∙ c.if-index-lt0.true in
    let bound = c.difference.ensures.bound in
    let fits : FitsSigned w64 c.difference.result = fits_signed_from_abs w64 c.difference.result (omega arith) in
    let place : c.unsigned_abs-place.result ≡ unsigned_abs c.args.index = cc (c.unsigned_abs-place.ensures.value, to_z-of_z w32 c.args.index c.ranges.index) in
    to_z-of_z w64 c.difference.result fits ∙ c.difference.ensures.value
    ∙ colour_negative c.args.bit_depth c.args.palette.now (grid_of (store_meanings g.S.Sealed.to_int c.args.store.now) c.args.table) c.args.c c.args.index (c.unsigned_abs-place.result - 1) test (ap (λ n. n - 1) place)

pub returns-then-place-palette-clause-value : goal.returns-then-place-palette-clause-value
returns-then-place-palette-clause-value g c =
    let test : lt_z c.args.index (pos 0) ≡ false = ap (λ z. lt_z z (pos 0)) (sym (to_z-of_z w32 c.args.index c.ranges.index)) ∙ c.if-index-lt0.false in
    let narrow : FitsSigned w32 c.number_at.result = search rules in
    let wide : FitsSigned w64 c.number_at.result = omega (arith, ints) in
    let place : c.unsigned_abs-place.result ≡ unsigned_abs c.args.index = cc (c.unsigned_abs-place.ensures.value, to_z-of_z w32 c.args.index c.ranges.index) in
    simp to_z-of_z (c.number_at.ensures
    ∙ colour_listed c.args.bit_depth c.args.palette.now (grid_of (store_meanings g.S.Sealed.to_int c.args.store.now) c.args.table) c.args.c c.args.index c.unsigned_abs-place.result test place c.if-place-palette.true)

pub returns-else-place-palette-clause-value : goal.returns-else-place-palette-clause-value
returns-else-place-palette-clause-value g c =
    let test : lt_z c.args.index (pos 0) ≡ false = ap (λ z. lt_z z (pos 0)) (sym (to_z-of_z w32 c.args.index c.ranges.index)) ∙ c.if-index-lt0.false in
    let bound = c.colour_after.ensures.bound in
    let place : c.unsigned_abs-place.result ≡ unsigned_abs c.args.index = cc (c.unsigned_abs-place.ensures.value, to_z-of_z w32 c.args.index c.ranges.index) in
    to_z_pos w64 c.colour_after.result (omega arith) ∙ ap pos c.colour_after.ensures.value
    ∙ colour_implicit c.args.bit_depth c.args.palette.now (grid_of (store_meanings g.S.Sealed.to_int c.args.store.now) c.args.table) c.args.c c.args.index c.unsigned_abs-place.result test place c.if-place-palette.false
