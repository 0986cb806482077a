-- A stream that has a profile under one limit has it under a higher one.
use Rattle.std.proofs.Common.{◌≡◌, ℕ, ◌+◌, ◌-◌, ◌≤◌, List, length, Bool, true, false, Result, Ok, Err, refl, arith}
use Rattle.std.specs.Prelude.{nat_lt, nat_le, ◌||◌, if◌then◌else◌}
use Rattle.std.proofs.lemmas.Bool.{le-ltb, ltb-false}
use Rattle.jxl_icc.specs.Errors.{and_then}
use Rattle.jxl_icc.specs.Numbers.{number_from}
use Rattle.jxl_icc.specs.Profiles.{body, icc_of}
use Rattle.jxl_icc.specs.declared.error.ProfileError.{ProfileError}
use Rattle.jxl_icc.specs.declared.error.ProfileError.TheVariants.{TooLong, Truncated}
use Rattle.jxl_icc.specs.declared.numbers.Number.{Number}

refused : (e : ProfileError) (icc : List ℕ) → ◌≡◌ {A = Result (List ℕ) ProfileError} (Err e) (Ok icc) → ⊥
refused e icc h = cc

chosen : (small large size : ℕ) (b other : Bool) (rest : Result (List ℕ) ProfileError) (icc : List ℕ) → small ≤ large → nat_lt small size ≡ b → (if b || other then Err TooLong else rest) ≡ Ok icc →
    (if nat_lt large size || other then Err TooLong else rest) ≡ Ok icc
chosen small large size true other rest icc le t e = absurd (refused TooLong icc e)
chosen small large size false other rest icc le t e = let within = ltb-false small size t in rw (le-ltb large size (omega (arith, le, within))) e

limited : (small large : ℕ) (r : Result Number ProfileError) (next : Number → Result (List ℕ) ProfileError) (icc : List ℕ) → small ≤ large →
    and_then r (λ size. if nat_lt small size.value || nat_le 4294967296 size.value then Err TooLong else next size) ≡ Ok icc →
    and_then r (λ size. if nat_lt large size.value || nat_le 4294967296 size.value then Err TooLong else next size) ≡ Ok icc
limited small large (Ok size) next icc le e = chosen small large size.value (nat_lt small size.value) (nat_le 4294967296 size.value) (next size) icc le refl e
limited small large (Err error) next icc le e = e

pub higher_limit : (small large : ℕ) (bytes icc : List ℕ) → small ≤ large → icc_of small bytes ≡ Ok icc → icc_of large bytes ≡ Ok icc
unfolding icc_of
higher_limit small large bytes icc le e =
    limited small large (number_from bytes (length bytes) 0) (λ size. and_then (number_from bytes (length bytes) size.after) (λ commands.
    if nat_lt (length bytes - commands.after) commands.value then Err Truncated else body bytes commands.after (commands.after + commands.value) size.value)) icc le e
