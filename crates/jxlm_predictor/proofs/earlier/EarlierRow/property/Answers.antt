use Rattle.std.proofs.Common.{◌≡◌, ℤ, ◌-ℤ◌, FitsSigned, refl, sym, ◌∙◌, arith, rules, to_z, of_z, ◌+◌, ◌-◌, ◌%◌}
use Rattle.std.specs.Int.{w32, w64, int_wrap}
use Rattle.std.proofs.lemmas.Int.{int_wrap_fits, to_z-of_z, ints, wraps}
use Rattle.jxlm_bits.specs.Numbers.{absolute}
use Rattle.jxlm_predictor.proofs.earlier.EarlierRow.property.Goals as goal

less : (a b : ℤ) → FitsSigned w32 a → FitsSigned w32 b → to_z w32 ((of_z w32 a + (4294967296 - of_z w32 b)) % 4294967296) ≡ int_wrap w32 (a -ℤ b)
less a b f g = search (rules, wraps)

pub returns-in-2 : goal.returns-in-2
returns-in-2 g c r store h =
    let f : FitsSigned w32 c.reduced.result = search rules in
    let f1 : FitsSigned w32 c.cell-cell.result = search rules in
    let f2 : FitsSigned w32 c.expected.result = search rules in
    let w1 : FitsSigned w64 c.cell-cell.result = omega (arith, ints) in
    let w2 : FitsSigned w64 c.expected.result = omega (arith, ints) in
    let w3 : FitsSigned w64 (c.cell-cell.result -ℤ c.expected.result) = omega (arith, ints) in
    let w4 : FitsSigned w64 c.abs.result = search rules in
    let e : c.abs.result ≡ absolute (c.cell-cell.result -ℤ c.expected.result) = simp to_z-of_z at c.abs.ensures.value in
    rw (to_z-of_z w32 c.reduced.result f, c.reduced.ensures, to_z-of_z w64 c.abs.result w4, e, c.in-2.is, c.cell-cell.ensures r store c.args.y h, c.expected.ensures r store h) refl

pub returns-in_default : goal.returns-in_default
returns-in_default g c r store h =
    let f1 : FitsSigned w32 c.cell-cell.result = search rules in
    let f2 : FitsSigned w32 c.expected-in_default.result = search rules in
    let three : c.args.which ≡ 3 = omega arith in
    rw (less c.cell-cell.result c.expected-in_default.result f1 f2, three, c.cell-cell.ensures r store c.args.y h, c.expected-in_default.ensures r store h) refl

pub returns-in-0 : goal.returns-in-0
returns-in-0 g c r store h =
    let f : FitsSigned w32 c.reduced_absolute.result = search rules in
    let f1 : FitsSigned w32 c.cell-cell.result = search rules in
    rw (to_z-of_z w32 c.reduced_absolute.result f, c.reduced_absolute.ensures, to_z-of_z w32 c.cell-cell.result f1, c.in-0.is, c.cell-cell.ensures r store c.args.y h) refl

pub returns-in-1 : goal.returns-in-1
returns-in-1 g c r store h =
    let f : FitsSigned w32 c.cell-cell.result = search rules in
    let same = int_wrap_fits w32 c.cell-cell.result f in
    to_z-of_z w32 c.cell-cell.result f ∙ sym same ∙ rw (c.in-1.is, c.cell-cell.ensures r store c.args.y h) refl
