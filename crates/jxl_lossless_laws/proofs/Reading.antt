-- What stands at a bit is read there, and nothing else.
use Rattle.std.proofs.Common.{◌≡◌, ℕ, List, Result, Ok, Err, ap}
use Rattle.jxlm_bits.specs.Decoding.{Found}
use Rattle.jxlm_bits.specs.ErrorKind.{ErrorAt, ErrorKind}
use Rattle.jxlm_bits.specs.Grammar.{Grammar}
use Rattle.jxl_codestream.specs.Fronts.{FailsAt, StandsAt}

same_found : {X : Type 0} (r : Result (Found X) ErrorAt) (a b : Found X) → r ≡ Ok a → r ≡ Ok b → a ≡ b
same_found r a b h k = cc

not_both : {X : Type 0} (r : Result (Found X) ErrorAt) (a : Found X) (e : ErrorAt) → r ≡ Ok a → r ≡ Err e → ⊥
not_both r a e h k = cc

module _ {X : Type 0} (field : Grammar X) (bytes : List ℕ) (p : ℕ) (x : X) (q : ℕ) (h : StandsAt field bytes p x q) where
  -- one value stands there, up to one bit
  pub stands_once : (y : X) (r : ℕ) → StandsAt field bytes p y r → (x ≡ y) × (q ≡ r)
  stands_once y r k =
      let same = same_found (field.read bytes p) _ _ h k in
      (ap (λ (f : Found X). f.value) same, ap (λ (f : Found X). f.position) same)

  -- and reading it returns no error
  pub stands_well : (error : ErrorKind) → FailsAt field bytes p error → ⊥
  stands_well error f = not_both (field.read bytes p) _ _ h f.1.refuses
