-- What is asked of trees so that few flat nodes are read.
use Rattle.std.specs.Prelude.{◌≡◌, ℕ, ◌<◌, ℤ, pos, int_lt, ◌≤ℤ◌, ◌<ℤ◌, neg_ℤ, ◌+ℤ◌, if◌then◌else◌, ◌^◌, Bool, true, false, List, [], ◌∷◌}
use Rattle.jxlm_ma_tree.specs.Tree.{Shape, leaf, decision}
use Rattle.jxlm_ma_tree.specs.declared.leaf.Leaf.{Leaf}

-- no decision tests the property
abbrev pub Avoids : ℕ → Shape Leaf → Type 0
Avoids p (leaf l) = Unit {0}
Avoids p (decision q value left right) = (q ≡ p → ⊥) × (Avoids p left × Avoids p right)

-- no path meets a property twice
abbrev pub MeetsOnce : Shape Leaf → Type 0
MeetsOnce (leaf l) = Unit {0}
MeetsOnce (decision q value left right) = (Avoids q left × Avoids q right) × (MeetsOnce left × MeetsOnce right)

-- every decision tests the property
abbrev pub TestsOnly : ℕ → Shape Leaf → Type 0
TestsOnly p (leaf l) = Unit {0}
TestsOnly p (decision q value left right) = (q ≡ p) × (TestsOnly p left × TestsOnly p right)

-- P holds of each cut
abbrev pub EachCut : (ℤ → Type 0) → Shape Leaf → Type 0
EachCut P (leaf l) = Unit {0}
EachCut P (decision q value left right) = P value × (EachCut P left × EachCut P right)

-- the cuts differ by at most n
abbrev pub CutsWithin : ℕ → Shape Leaf → Type 0
CutsWithin n t = (low : ℤ) × EachCut (λ v. (low ≤ℤ v) × (v ≤ℤ (low +ℤ pos n))) t

-- the way to the leaf where every property is x: true where it goes left
abbrev pub way : ℤ → Shape Leaf → List Bool
way x (leaf l) = []
way x (decision q value left right) = if int_lt value x then true ∷ way x left else false ∷ way x right

-- every property is an `i32`
pub record Fits (f : ℕ → ℤ) : Type 0 where
  pub low : (k : ℕ) → neg_ℤ (pos (2 ^ 31)) ≤ℤ f k
  pub high : (k : ℕ) → f k <ℤ pos (2 ^ 31)

-- n leaves are reached by values of 32 bits
abbrev pub Reaches : ℕ → Shape Leaf → Type 0
Reaches n t = (xs : ℕ → ℤ) × (Fits xs × ((i j : ℕ) → i < j → j < n → way (xs i) t ≡ way (xs j) t → ⊥))
