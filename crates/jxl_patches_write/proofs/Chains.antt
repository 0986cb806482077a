-- Steps of a chain, one after another.
use Rattle.std.proofs.Common.{◌≡◌, ℕ, suc, ◌+◌, List, [], ◌++◌, refl, sym, subst, append_assoc, arith}
use Rattle.std.proofs.lemmas.List.{append-nil}
use Rattle.jxlm_bits.specs.Tokens.{Tokens}
use Rattle.jxlm_bits.specs.Turns.{chain}
use Rattle.jxlm_bit_writer.specs.declared.token.Token.{Token}
use Rattle.jxl_coding.specs.Tokens.{Entropy}
use Rattle.jxl_patches_write.specs.Inner.Given.{Give, GiveSteps}
use Rattle.jxl_patches_write.proofs.TokenParts.{tells_both, tells_nothing}

module _ {X : Type 0} (step : X → Tokens Entropy X) where
  pub no_steps : (x : X) → Give (chain step 0 x) [] x
  unfolding chain
  no_steps x = tells_nothing (chain step 0 x) x (λ s bytes p. refl)

  pub first_step : (n : ℕ) (x y z : X) (ys others : List Token) → Give (step x) ys y → Give (chain step n y) others z → Give (chain step (suc n) x) (ys ++ others) z
  unfolding chain
  first_step n x y z ys others one rest = tells_both (step x) (λ a. chain step n a) ys others y z one rest

  pub steps_none : (x : X) → GiveSteps step 0 x [] x
  steps_none x m others z rest = let count : m ≡ 0 + m = omega arith in subst (λ (k : ℕ). Give (chain step k x) others z) count rest

  pub steps_more : (n : ℕ) (x y z : X) (xs ys : List Token) → GiveSteps step n x xs y → Give (step y) ys z → GiveSteps step (n + 1) x (xs ++ ys) z
  steps_more n x y z xs ys before one m others w rest =
      let all : Give (chain step (n + suc m) x) (xs ++ (ys ++ others)) w = before (suc m) (ys ++ others) w (first_step m y z w ys others one rest) in
      let count : n + suc m ≡ n + 1 + m = omega arith in
      subst (λ (ts : List Token). Give (chain step (n + 1 + m) x) ts w) (sym (append_assoc xs ys others)) (subst (λ (k : ℕ). Give (chain step k x) (xs ++ (ys ++ others)) w) count all)

  pub steps_all : (n : ℕ) (x y : X) (xs : List Token) → GiveSteps step n x xs y → Give (chain step n x) xs y
  steps_all n x y xs before =
      let count : n + 0 ≡ n = omega arith in
      subst (λ (ts : List Token). Give (chain step n x) ts y) (append-nil xs) (subst (λ (k : ℕ). Give (chain step k x) (xs ++ []) y) count (before 0 [] y (no_steps y)))
