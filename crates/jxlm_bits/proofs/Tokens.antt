-- The numbers of tokens.
use Rattle.std.proofs.Common.{◌≡◌, ◌↔◌, ℕ, ◌+◌, ◌*◌, ◌<◌, ◌^◌, ℤ, pos, negsuc, FitsSigned, arith}
use Rattle.std.specs.Int.{Width, w32}
use Rattle.std.proofs.lemmas.Int.{ints, clamps}
use Rattle.jxlm_bits.specs.Numbers.{unpack, clamped_gradient}

pub token_of : (z : ℤ) → (token : ℕ) × (unpack token ≡ z)
token_of (pos n) = (2 * n, grind arith)
token_of (negsuc n) = (2 * n + 1, grind arith)

pub unpack_one : (s t : ℕ) → unpack s ≡ unpack t → s ≡ t
unpack_one s t h = grind (arith, ints)

pub unpack_fits : (token : ℕ) → FitsSigned w32 (unpack token) ↔ (token < 2 ^ 32)
unpack_fits token = (λ h. grind (arith, ints), λ h. grind (arith, ints))

pub gradient_fits : (w : Width) (n west nw : ℤ) → FitsSigned w n → FitsSigned w west → FitsSigned w (clamped_gradient n west nw)
gradient_fits w n west nw f g = omega (arith, ints, clamps)
