use Rattle.std.proofs.Common.{◌≡◌, ◌<◌, ◌∙◌, ap, sym, subst, length, rules, arith, w32, to_z, of_z, FitsSigned}
use Rattle.std.specs.Prelude.{unsigned_abs}
use Rattle.std.specs.Int.Signed.{yes_non_neg}
use Rattle.std.proofs.Math.ListN.{length-set}
use Rattle.std.proofs.lemmas.Int.{to_z-of_z}
use Rattle.jxlm_inverse.specs.Inner.PaletteSteps.{number_of}
use Rattle.jxlm_inverse.specs.Inner.PaletteSteps.{IsSimpleIndex}
use Rattle.jxlm_inverse.proofs.PaletteRows.{fits_more, line_more, number_read, simple_positive}
use Rattle.jxlm_inverse.proofs.PaletteSteps.{simple_place}
use Rattle.jxlm_inverse.proofs.palette.look_up.Goals as goal

pub overflow_cast-place : goal.overflow_cast-place
overflow_cast-place g c =
    let t = c.args.palette.now in
    let to_int = g.S.Sealed.to_int in
    let xs = c.args.indices.now in
    let j = c.loop-j.j in
    let r = c.to_i32-place.result in
    let fits : FitsSigned w32 r = search rules in
    let len = c.loop-j.invariant.len in
    let many = c.requires.as_many in
    let end = c.loop-j.auto.j-end in
    let within : j < length xs = omega (arith, end, len, many, c.loop-j-test.true) in
    let is : to_z w32 (of_z w32 r) ≡ number_of to_int xs j =
    to_z-of_z w32 r fits ∙ c.to_i32-place.ensures.value ∙ sym (number_read to_int xs j c.index-indices-j.result within c.index-indices-j.is) in
    let simple : IsSimpleIndex t (to_z w32 (of_z w32 r)) = subst (IsSimpleIndex t) (sym is) (c.requires.simple j within) in
    (yes_non_neg (simple_positive t (to_z w32 (of_z w32 r)) simple), search rules)

pub bounds-colours-place : goal.bounds-colours-place
bounds-colours-place g c =
    let t = c.args.palette.now in
    let to_int = g.S.Sealed.to_int in
    let xs = c.args.indices.now in
    let j = c.loop-j.j in
    let r = c.to_i32-place.result in
    let fits : FitsSigned w32 r = search rules in
    let len = c.loop-j.invariant.len in
    let many = c.requires.as_many in
    let end = c.loop-j.auto.j-end in
    let within : j < length xs = omega (arith, end, len, many, c.loop-j-test.true) in
    let is : to_z w32 (of_z w32 r) ≡ number_of to_int xs j =
    to_z-of_z w32 r fits ∙ c.to_i32-place.ensures.value ∙ sym (number_read to_int xs j c.index-indices-j.result within c.index-indices-j.is) in
    let simple : IsSimpleIndex t (to_z w32 (of_z w32 r)) = subst (IsSimpleIndex t) (sym is) (c.requires.simple j within) in
    let columns = c.requires.columns in
    omega (arith, columns, simple_place t (to_z w32 (of_z w32 r)) simple)

pub offset_bounds-colours-place : goal.offset_bounds-colours-place
unfolding bounds-colours-place
offset_bounds-colours-place g c = let h = bounds-colours-place g c in omega (arith, h)

pub loop-j-preserved : goal.loop-j-preserved
loop-j-preserved g c =
    let t = c.args.palette.now in
    let to_int = g.S.Sealed.to_int in
    let w = g.S.Sealed.width in
    let xs = c.args.indices.now in
    let colours = c.args.colours.now in
    let j = c.loop-j.j in
    let r = c.to_i32-place.result in
    let fits : FitsSigned w32 r = search rules in
    let narrow : FitsSigned w32 c.to_i32.result = search rules in
    let len = c.loop-j.invariant.len in
    let many = c.requires.as_many in
    let end = c.loop-j.auto.j-end in
    let within : j < length xs = omega (arith, end, len, many, c.loop-j-test.true) in
    let z = to_z w32 (of_z w32 r) in
    let is : z ≡ number_of to_int xs j =
    to_z-of_z w32 r fits ∙ c.to_i32-place.ensures.value ∙ sym (number_read to_int xs j c.index-indices-j.result within c.index-indices-j.is) in
    let simple : IsSimpleIndex t z = subst (IsSimpleIndex t) (sym is) (c.requires.simple j within) in
    let columns = c.requires.columns in
    let place : unsigned_abs z < length colours = omega (arith, columns, simple_place t z simple) in
    let colour : to_z w32 (of_z w32 c.to_i32.result) ≡ number_of to_int colours (unsigned_abs (number_of to_int xs j)) =
    to_z-of_z w32 c.to_i32.result narrow ∙ c.to_i32.ensures.value ∙ sym (number_read to_int colours (unsigned_abs z) c.index-colours-place.result place c.index-colours-place.is)
    ∙ ap (λ n. number_of to_int colours (unsigned_abs n)) is in
    record {
      len = length-set c.loop-j.line j _ ∙ len;
      fit = fits_more c.loop-j.line j _ (omega (arith, len, many, within)) (search rules) c.loop-j.invariant.fit;
      looked_up = line_more (λ i. number_of to_int colours (unsigned_abs (number_of to_int xs i))) c.loop-j.line j _ (omega (arith, len, many, within)) colour c.loop-j.invariant.looked_up;
    }
