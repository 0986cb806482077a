-- Numbers that were not taken, counted by a full binary tree; orders as far as they are known.
use Rattle.std.specs.Prelude.{◌≡◌, ℕ, suc, ◌+◌, ◌*◌, ◌^◌, ◌<◌, ◌≤◌, List, [], ◌∷◌, ◌++◌, length, take, slice_index, slice_index_or}
use Rattle.jxl_codestream.specs.Inner.Free.{free_below, IsNext}

-- Node 2 ^ m + i counts the numbers not taken among 2 ^ h, from i * 2 ^ h on, where all are 2 ^ (m + h).
pub record IsCounted (counts : List ℕ) (levels : ℕ) (taken : List ℕ) : Type 0 where
  pub each : (m h i : ℕ) → m + h ≡ levels → i < 2 ^ m → slice_index counts (2 ^ m + i) + free_below taken (i * 2 ^ h) ≡ free_below taken (suc i * 2 ^ h)

-- The nodes of heights below j already count without v.
pub record IsPartly (counts : List ℕ) (levels : ℕ) (taken : List ℕ) (v j : ℕ) : Type 0 where
  pub counted : (m h i : ℕ) → m + h ≡ levels → i < 2 ^ m → h < j → slice_index counts (2 ^ m + i) + free_below (taken ++ v ∷ []) (i * 2 ^ h) ≡ free_below (taken ++ v ∷ []) (suc i * 2 ^ h)
  pub uncounted : (m h i : ℕ) → m + h ≡ levels → i < 2 ^ m → j ≤ h → slice_index counts (2 ^ m + i) + free_below taken (i * 2 ^ h) ≡ free_below taken (suc i * 2 ^ h)

-- The first k nodes count all numbers.
pub record AreAllFree (counts : List ℕ) (levels k : ℕ) : Type 0 where
  pub each : (m h i : ℕ) → m + h ≡ levels → i < 2 ^ m → 2 ^ m + i < k → slice_index counts (2 ^ m + i) ≡ 2 ^ h

-- The first numbers of an order.
pub record IsBegun (code : List ℕ) (n : ℕ) (order : List ℕ) : Type 0 where
  pub each : (i : ℕ) → i < length order → IsNext n (take i order) (slice_index_or code i 0) (slice_index order i)

-- each digit of the code leads to one of n numbers that are left
abbrev pub AreDigits : List ℕ → ℕ → Type 0
AreDigits code n = (i : ℕ) → i < length code → slice_index code i + i < n
