-- Channels with the sides of their own shift.
use Rattle.std.proofs.Common.{◌≡◌, ℕ, ◌/◌, ◌%◌, ◌^◌, ◌<◌, ◌≤◌, ℤ, ap, sym, ◌∙◌, arith}
use Rattle.std.specs.Prelude.{min}
use Rattle.std.specs.Int.{div_ceil}
use Rattle.std.proofs.Math.Nat.{div-one, mod-eq_of_lt, pow-le-pow_right}
use Rattle.std.proofs.lemmas.Nat.{div_below}
use Rattle.jxlm_base.specs.Grid.{Grid}
use Rattle.jxl_image_header.specs.declared.channel.ExtraChannel.{ExtraChannel}
use Rattle.jxl_image_header.specs.declared.size.Size.{Size}
use Rattle.jxl_picture.specs.Sides.{HasShiftedSides, HasSides}

-- a side of this number of samples in a channel of this shift
abbrev pub shifted : ℕ → ℕ → ℕ
shifted shift n = div_ceil n (2 ^ shift)

-- a side that is not halved is itself
pub shifted_none : (n : ℕ) → shifted 0 n ≡ n
shifted_none n = let one = div-one n in let rest : n % 1 ≡ 0 = omega arith in rw (one, rest) (omega arith)

-- a side that is halved so often that one sample is left
pub shifted_far : (shift n : ℕ) → 32 ≤ shift → n < 2 ^ 32 → min n 1 ≡ shifted shift n
shifted_far shift n far small =
    let p : 2 ^ 32 ≤ 2 ^ shift = pow-le-pow_right {n = 2} (omega arith) far in
    let below : n / 2 ^ shift < 1 = div_below n (2 ^ shift) 1 (omega (arith, p)) (omega (arith, p, small)) in
    let none : n / 2 ^ shift ≡ 0 = omega (arith, below) in
    let rest : n % 2 ^ shift ≡ n = mod-eq_of_lt (omega (arith, p, small)) in
    rw (none, rest) (omega arith)

-- a channel of no shift has the sides of the picture
pub full_sides : (size : Size) (c : ExtraChannel) (g : Grid ℤ) → c.dim_shift ≡ 0 → HasShiftedSides size c g → HasSides size.width size.height g
full_sides size c g none s = record {
  wide = s.wide ∙ ap (λ k. shifted k size.width) none ∙ shifted_none size.width;
  high = s.high ∙ ap (λ k. shifted k size.height) none ∙ shifted_none size.height;
}

pub sides_of_full : (size : Size) (c : ExtraChannel) (g : Grid ℤ) → c.dim_shift ≡ 0 → HasSides size.width size.height g → HasShiftedSides size c g
sides_of_full size c g none s = record {
  wide = s.wide ∙ sym (ap (λ k. shifted k size.width) none ∙ shifted_none size.width);
  high = s.high ∙ sym (ap (λ k. shifted k size.height) none ∙ shifted_none size.height);
}
