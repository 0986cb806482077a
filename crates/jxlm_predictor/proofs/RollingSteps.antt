-- The numbers with which a state rolls on.
use Rattle.std.proofs.Common.{◌≡◌, ◌+◌, ◌-◌, ◌%◌, ◌≤◌, ℤ, ◌+ℤ◌, ◌-ℤ◌, length, FitsSigned, arith, rules, to_z, of_z}
use Rattle.std.specs.Int.{w32, int_wrap}
use Rattle.std.proofs.lemmas.Int.{wraps}
use Rattle.jxlm_predictor.specs.declared.state.PredictorState.{PredictorState}

-- property 9, by sums that wrap
pub gradient_wraps : (w n nw : ℤ) → FitsSigned w32 w → FitsSigned w32 n → FitsSigned w32 nw →
    to_z w32 (((of_z w32 w + (4294967296 - of_z w32 nw)) % 4294967296 + of_z w32 n) % 4294967296) ≡ int_wrap w32 (w -ℤ nw +ℤ n)
gradient_wraps w n nw fw fn fnw = search (rules, wraps)

pub current_long : {S : Type 0} (state : PredictorState S) → state.width ≤ length state.current.items
current_long state = let h = state.current_len in let r = state.within_room in let l = state.current.ok.0 in omega (arith, h, r, l)
