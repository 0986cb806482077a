-- A text that is cut at a byte.
use Rattle.std.specs.Prelude.{◌≡◌, ◌≢◌, ℕ, List, ◌∷◌, ◌++◌}
use Rattle.std.specs.List.{AllByRecursion}

-- no byte of the text is c
abbrev pub Lacks : ℕ → List ℕ → Type 0
Lacks c text = AllByRecursion (λ b. b ≢ c) text

-- the text is what stands before its first byte c, that byte, and what comes after it
pub record IsCut (c : ℕ) (text before after : List ℕ) : Type 0 where
  pub is : text ≡ before ++ c ∷ after
  pub first : Lacks c before
