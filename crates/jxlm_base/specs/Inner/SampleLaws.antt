-- Both types of samples meet the laws of samples.
use Rattle.std.specs.Prelude.{◌≡◌, ℕ, ◌%◌, ◌-◌, ◌<◌, ◌^◌, ℤ, pos, negsuc, FitsSigned, unsigned_abs}
use Rattle.std.specs.Int.{w16, w32, int_wrap, int_rem_euclid, cast_signed}
use Rattle.std.proofs.Common.{◌∙◌, ap, arith}
use Rattle.std.proofs.lemmas.Int.{int_wrap_fits, SFits-int_wrap, ints}

-- what fits 16 bits fits 32
pub fits_wider : (z : ℤ) → FitsSigned w16 z → FitsSigned w32 z
fits_wider z h = omega (arith, ints)

-- the 32 bits n, read with their sign, leave the same at a division by 2 ^ 16
signed_rem : (n : ℕ) → n < 2 ^ 32 → unsigned_abs (int_rem_euclid (cast_signed w32 n) (pos 65536)) ≡ n % 65536
signed_rem n h = grind (arith, ints)

-- to reduce to 32 bits on the way to 16, or to 32 once more, changes nothing
pub int_wrap-narrow : (z : ℤ) → int_wrap w16 (int_wrap w32 z) ≡ int_wrap w16 z
unfolding int_wrap
int_wrap-narrow (pos a) = ap (cast_signed w16) (signed_rem (a % 2 ^ 32) (omega arith) ∙ omega arith)
int_wrap-narrow (negsuc a) = ap (cast_signed w16) (signed_rem (2 ^ 32 - 1 - a % 2 ^ 32) (omega arith) ∙ omega arith)

pub int_wrap_again : (z : ℤ) → int_wrap w32 (int_wrap w32 z) ≡ int_wrap w32 z
int_wrap_again z = int_wrap_fits w32 (int_wrap w32 z) (SFits-int_wrap w32 z)
