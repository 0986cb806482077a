-- The reads of the decoder with errors do not look at multipliers.
use Rattle.std.proofs.Common.{◌≡◌, ℕ, List, refl}
use Rattle.jxlm_plain.specs.Plain.{plain_read}
use Rattle.jxlm_fault.specs.Fault.{FaultState, fault_read}

pub same_read : (s : FaultState) (bytes : List ℕ) (p c m : ℕ) → fault_read s bytes p c m ≡ fault_read s bytes p c 0
unfolding fault_read plain_read
same_read s bytes p c m = refl
