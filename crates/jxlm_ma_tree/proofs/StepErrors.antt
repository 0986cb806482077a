-- What a step returns, where a call in it failed.
use Rattle.std.proofs.Common.{◌≡◌, ◌∙◌, ℕ, List, Some, Result, Ok, Err, ap, sym}
use Rattle.std.specs.Result.{IfOk, IsErr, IsErrAnd}
use Rattle.jxlm_bits.specs.Bits.{bytes_of, position_of}
use Rattle.jxlm_bits.specs.Decoding.{Taken}
use Rattle.jxlm_bits.specs.ErrorKind.{ErrorAt, kind_of}
use Rattle.jxlm_bits.specs.declared.bits.Bitstream.{Bitstream}
use Rattle.jxlm_bits.specs.declared.error.Error.{Error}
use Rattle.jxlm_ma_tree.specs.Inner.DraftReading.{StepGives}

-- the error of the call is the step's own
pub step_fails : {X Y S : Type 0} (view : X → Y) (r : Result X Error) (e : Error) (s t : S) (a b : Bitstream) (step : List ℕ → S → ℕ → Result (Taken Y S) ErrorAt) → IsErr r → IsErrAnd r (λ y. y ≡ e) →
    step (bytes_of a) s (position_of a) ≡ Err (record { error = kind_of e; position = Some (position_of b) }) → StepGives view r s t a b step
step_fails view (Ok x) e s t a b step failed same given = cc
step_fails view (Err y) e s t a b step failed same given = given ∙ ap (λ (z : Error). Err (record { error = kind_of z; position = Some (position_of b) })) (sym same)

-- what is promised of a value
pub no_value : {X E : Type 0} (r : Result X E) (P : X → Type 0) → IsErr r → IfOk r P
no_value (Ok x) P failed = cc
no_value (Err e) P failed = tt
