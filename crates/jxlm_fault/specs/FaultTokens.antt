-- What the tokens of a decoder with an error are, without its steps.
use Rattle.std.specs.Prelude.{◌≡◌, ℕ, ◌+◌, ◌<◌, ◌≤◌, ◌⊎◌, List, length, take, min, Result, Ok, Err, MatchResult}
use Rattle.jxlm_bits.specs.Decoding.{Taken, Asked, reads}
use Rattle.jxlm_bits.specs.declared.decoder.DecoderError.TheVariants.{Invalid}
use Rattle.jxlm_plain.specs.Plain.{PlainState, plain}
use Rattle.jxlm_fault.specs.Fault.{FaultState, faulty}

-- From a begin on, reads give the tokens of the plain decoder, or its error, as far as there is no other: they are no
-- more than the number of the read that is the error, or that is 4 or more.
abbrev pub TokensBeforeTheError : Type 0
TokensBeforeTheError = (s : FaultState) (bytes : List ℕ) (p : ℕ) (asked : List Asked) → s.reads ≡ 0 → (4 ≤ s.fault) ⊎ (length asked ≤ s.fault) →
    MatchResult (reads plain s.plain bytes p asked)
    (λ x. reads faulty s bytes p asked ≡ Ok (record { value = x.value; state = record { fault = s.fault; reads = min (length asked) 4; plain = x.state }; position = x.position }))
    (λ e. reads faulty s bytes p asked ≡ Err e)

-- The read whose number is below 4 and is that of the error is Invalid(77), where those before it give tokens.
abbrev pub ErrorAtItsRead : Type 0
ErrorAtItsRead = (s : FaultState) (bytes : List ℕ) (p : ℕ) (asked : List Asked) (x : Taken (List ℕ) PlainState) → s.reads ≡ 0 → s.fault < 4 → s.fault < length asked →
    reads plain s.plain bytes p (take s.fault asked) ≡ Ok x → reads faulty s bytes p asked ≡ Err (Invalid 77)

-- 4 is the error of each begin, and 5 that of each end
abbrev pub ErrorAtItsEnd : Type 0
ErrorAtItsEnd = (s : FaultState) (bytes : List ℕ) (p : ℕ) → (s.fault ≡ 4 → faulty.begin s bytes p ≡ Err (Invalid 77)) × (s.fault ≡ 5 → faulty.finalize s ≡ Err (Invalid 77))
