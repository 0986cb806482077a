-- What holds of the results of readings, one after another.
use Rattle.std.specs.Prelude.{◌≡◌, ℕ, zero, suc, List, Bool, true, false, cond, Result, Ok, Err, IfOk}
use Rattle.std.proofs.Common.{refl}
use Rattle.jxlm_bits.specs.Decoding.{Found}
use Rattle.jxlm_bits.specs.ErrorKind.{◌>>=◌}
use Rattle.jxlm_bits.specs.declared.decoder.DecoderError.{DecoderError}
use Rattle.jxl_coding_codes.specs.Reading.{steps}

pub after : {A B : Type 0} (r : Result A DecoderError) (f : A → Result B DecoderError) (P : A → Type 0) (Q : B → Type 0) → IfOk r P → ((x : A) → P x → IfOk (f x) Q) → IfOk (r >>= f) Q
after (Ok x) f P Q h k = k x h
after (Err e) f P Q h k = tt

pub either : {A : Type 0} (b : Bool) (x y : Result A DecoderError) (Q : A → Type 0) → (b ≡ true → IfOk x Q) → (b ≡ false → IfOk y Q) → IfOk (cond b x y) Q
either true x y Q h k = h refl
either false x y Q h k = k refl

abbrev pub Any : {A : Type 0} → A → Type 0
Any x = Unit {0}

pub anything : {A : Type 0} (r : Result A DecoderError) → IfOk r Any
anything (Ok x) = tt
anything (Err e) = tt

abbrev ok : {A : Type 0} → A → Result A DecoderError
ok x = Ok x

ok_same : {A : Type 0} (x y : A) → ok x ≡ ok y → y ≡ x
ok_same x y h = cc

-- of what was found
pub of_ok : {A : Type 0} (r : Result A DecoderError) (Q : A → Type 0) (x : A) → IfOk r Q → r ≡ Ok x → Q x
of_ok (Ok y) Q x h e = rw (ok_same _ _ e) h
of_ok (Err f) Q x h e = cc

-- what each reading keeps, where this number of are left
pub steps_keep : {X : Type 0} (step : X → List ℕ → ℕ → Result (Found X) DecoderError) (Inv : ℕ → X → Type 0) →
    ((k : ℕ) (x : X) (bytes : List ℕ) (p : ℕ) → Inv (suc k) x → IfOk (step x bytes p) (λ f. Inv k f.value)) →
    (n : ℕ) (x : X) (bytes : List ℕ) (p : ℕ) → Inv n x → IfOk (steps step n x bytes p) (λ f. Inv 0 f.value)
unfolding steps
steps_keep step Inv h zero x bytes p start = start
steps_keep step Inv h (suc n) x bytes p start =
    after (step x bytes p) _ (λ f. Inv n f.value) (λ f. Inv 0 f.value) (h n x bytes p start) (λ f now. steps_keep step Inv h n f.value bytes f.position now)
