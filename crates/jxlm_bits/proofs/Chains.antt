-- Steps of a chain, one after another, as a loop reads them.
use Rattle.std.proofs.Common.{◌≡◌, ℕ, suc, ◌+◌, ◌-◌, ◌<◌, ◌≤◌, List, Ok, refl, arith}
use Rattle.jxlm_bits.specs.ErrorKind.{ErrorKind, UnlessMemory}
use Rattle.jxlm_bits.specs.Grammar.{IsErrorAt}
use Rattle.jxlm_bits.proofs.ReadSteps.{unless_so}
use Rattle.jxlm_bits.specs.Tokens.{Tokens}
use Rattle.jxlm_bits.specs.Turns.{chain}

module _ {S X : Type 0} (step : X → Tokens S X) (bytes : List ℕ) (n : ℕ) where
  -- one more step was read
  pub chain_step : (i p q : ℕ) (x y : X) (s t : S) → i < n → (step x s).read bytes p ≡ Ok (record { value = record { value = y; state = t }; position = q }) →
      (chain step (n - i) x s).read bytes p ≡ (chain step (n - (i + 1)) y t).read bytes q
  unfolding chain
  chain_step i p q x y s t lt h = let k : n - i ≡ suc (n - (i + 1)) = omega arith in rw (k, h) refl

  chain_error : (i p q : ℕ) (x : X) (s : S) (error : ErrorKind) → i < n → IsErrorAt ((step x s).read bytes p) error q → IsErrorAt ((chain step (n - i) x s).read bytes p) error q
  unfolding chain
  chain_error i p q x s error lt r = let k : n - i ≡ suc (n - (i + 1)) = omega arith in record { place = r.place; refuses = rw (k, r.refuses) refl; stands = r.stands }

  -- a step gave an error
  pub chain_fails : (i p q : ℕ) (x : X) (s : S) (error : ErrorKind) → i < n → UnlessMemory error (IsErrorAt ((step x s).read bytes p) error q) →
      UnlessMemory error (IsErrorAt ((chain step (n - i) x s).read bytes p) error q)
  chain_fails i p q x s error lt h = unless_so error {P = IsErrorAt ((step x s).read bytes p) error q} {Q = IsErrorAt ((chain step (n - i) x s).read bytes p) error q} (chain_error i p q x s error lt) h

  -- all steps were read
  pub chain_ends : (i p : ℕ) (x : X) (s : S) → n ≤ i → (chain step (n - i) x s).read bytes p ≡ Ok (record { value = record { value = x; state = s }; position = p })
  unfolding chain
  chain_ends i p x s le = let k : n - i ≡ 0 = omega arith in rw k refl
