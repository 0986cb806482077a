use Rattle.std.proofs.Common.{◌≡◌, ◌-◌, ◌*◌, ◌%◌, ◌^◌, ℕ, ap, ◌∙◌, arith}
use lib.Count.{count_leading_zeros}
use Rattle.jxl_picture.specs.Floats.{magnitude}
use Rattle.jxl_picture.proofs.Singles.{moved}
use Rattle.jxl_picture.proofs.floats.subnormal_magnitude.Goals as goal

pub overflow_sub-shift : goal.overflow_sub-shift
overflow_sub-shift c = (moved c.args.mantissa c.requires.positive c.requires.small).eight

pub overflow_sub-mantissa : goal.overflow_sub-mantissa
overflow_sub-mantissa c =
    let m = c.args.mantissa in
    let to = moved m c.requires.positive c.requires.small in
    let same : m * 2 ^ (count_leading_zeros 32 m - 8) ≡ m * 2 ^ to.shift = ap (λ (k : ℕ). m * 2 ^ k) to.is in
    let low = to.low in
    let high = to.high in
    omega (arith, same, low, high)

pub magnitude-requires-clause-mantissa : goal.magnitude-requires-clause-mantissa
magnitude-requires-clause-mantissa c =
    let m = c.args.mantissa in
    let to = moved m c.requires.positive c.requires.small in
    let same : m * 2 ^ (count_leading_zeros 32 m - 8) ≡ m * 2 ^ to.shift = ap (λ (k : ℕ). m * 2 ^ k) to.is in
    let low = to.low in
    let high = to.high in
    omega (arith, same, low, high)

pub returns-clause-gives : goal.returns-clause-gives
returns-clause-gives c =
    let m = c.args.mantissa in
    let shift = count_leading_zeros 32 m - 8 in
    let to = moved m c.requires.positive c.requires.small in
    let same : m * 2 ^ shift ≡ m * 2 ^ to.shift = ap (λ (k : ℕ). m * 2 ^ k) to.is in
    let high = to.high in
    let whole : m * 2 ^ shift % 2 ^ 32 ≡ m * 2 ^ shift = omega (arith, same, high) in
    c.magnitude.ensures.gives ∙ ap (λ (b : ℕ). magnitude (128 - b - shift) (m * 2 ^ shift % 2 ^ 32 - 2 ^ 23)) c.bias.ensures.gives
    ∙ ap (λ (k : ℕ). magnitude (128 - (2 ^ (c.args.exp_bits - 1) - 1) - shift) (k - 2 ^ 23)) whole
