-- Marks of clusters.
use Rattle.std.specs.Prelude.{◌≡◌, ℕ, ◌<◌, List, Bool, false, ◌==◌, slice_index_or}
use Rattle.std.specs.List.{list_any}

-- each cluster that is among these is marked, and no other
abbrev pub AreMarked : List Bool → List ℕ → Type 0
AreMarked marks clusters = (c : ℕ) → c < 256 → slice_index_or marks c false ≡ list_any (λ k. k == c) clusters
