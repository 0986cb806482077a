-- Results of which the second error ends the first, and running out of memory.
use Rattle.std.specs.Prelude.{Option, Some, None, Result, Ok, Err, ◌≡◌, ◌⊎◌}
use Rattle.jxl_icc.specs.declared.error.ProfileError.{ProfileError}
use Rattle.jxl_icc.specs.declared.error.ProfileError.TheVariants.{OutOfMemory}

-- what follows the first result, if that is no error
abbrev pub and_then : {A B : Type 0} → Result A ProfileError → (A → Result B ProfileError) → Result B ProfileError
and_then (Ok a) f = f a
and_then (Err e) f = Err e

-- the result, unless there is an error
abbrev pub unless : {A : Type 0} → Option ProfileError → Result A ProfileError → Result A ProfileError
unless None r = r
unless (Some e) r = Err e

-- the fact, unless it is out of memory, which a call that takes memory may return at any time
abbrev pub UnlessMemory : ProfileError → Type 0 → Type 0
UnlessMemory e P = (e ≡ OutOfMemory) ⊎ P
