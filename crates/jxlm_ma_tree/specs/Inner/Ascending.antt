-- Cuts in ascending order, and what is left of them.
use Rattle.std.specs.Prelude.{◌≡◌, ℤ, ◌<ℤ◌, ◌≤ℤ◌, List, [], ◌∷◌, ◌++◌}
use Rattle.jxlm_ma_tree.specs.Marked.{Each}

-- each cut is below those after it
abbrev pub Ascends : List ℤ → Type 0
Ascends [] = Unit {0}
Ascends (v ∷ vs) = Each (λ w. v <ℤ w) vs × Ascends vs

-- of cuts of which the first are below v, and no others, these are left
abbrev pub LeavesBelow : ℤ → List ℤ → List ℤ → Type 0
LeavesBelow v old new = (xs ys : List ℤ) → old ≡ xs ++ ys → Each (λ c. c <ℤ v) xs → Each (λ c. v ≤ℤ c) ys → new ≡ xs

-- of cuts of which the last are above v, and no others, these are left
abbrev pub LeavesAbove : ℤ → List ℤ → List ℤ → Type 0
LeavesAbove v old new = (xs ys : List ℤ) → old ≡ xs ++ ys → Each (λ c. c ≤ℤ v) xs → Each (λ c. v <ℤ c) ys → new ≡ ys
