-- A state that keeps its bits before a symbol, or gives its last 16 away.
use Rattle.std.proofs.Common.{ℕ, ◌*◌, ◌/◌, ◌%◌, ◌^◌, ◌<◌, ◌≤◌, refl, arith}
use Rattle.jxl_coding_write.specs.Places.{IsReduced}

pub kept : (many state : ℕ) → state < many * 2 ^ 20 → IsReduced many state state 0 0
kept many state few = record { keeps = λ h. (refl, refl, refl); gives = λ h. absurd (omega (arith, few, h)) }

pub given : (many state : ℕ) → many * 2 ^ 20 ≤ state → IsReduced many state (state / 65536) 16 (state % 65536)
given many state large = record { keeps = λ h. absurd (omega (arith, large, h)); gives = λ h. (refl, refl, refl) }
