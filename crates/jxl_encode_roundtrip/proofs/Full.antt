-- The first grids of a list, each of them full.
use Rattle.std.proofs.Common.{◌≡◌, ℕ, zero, suc, ◌<◌, ℤ, List, [], ◌∷◌, length, take, get_or, subst, arith}
use Rattle.std.specs.List.{All}
use Rattle.std.proofs.lemmas.List.Elements.{All-cons, All-head, All-nil, All-tail}
use Rattle.jxlm_base.specs.Grid.{Grid, IsFull}

-- one more
pub full_more : (grids : List (Grid ℤ)) (i : ℕ) (g : Grid ℤ) → i < length grids → g ≡ get_or grids i g → IsFull g → All IsFull (take i grids) → All IsFull (take (suc i) grids)
full_more [] i g lt is full all = absurd (omega (arith, lt))
full_more (x ∷ xs) zero g lt is full all = All-cons IsFull x [] (subst IsFull is full) (All-nil IsFull)
full_more (x ∷ xs) (suc i) g lt is full all =
    All-cons IsFull x (take (suc i) xs) (All-head IsFull x (take i xs) all) (full_more xs i g (omega (arith, lt)) is full (All-tail IsFull x (take i xs) all))
