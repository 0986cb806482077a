-- For each value of properties 9 to 15, the leaves of a small tree that no decision on the property rules out.
use Rattle.std.specs.Prelude.{ℕ, ◌+◌, ◌*◌, ◌==◌, Bool, ℤ, pos, neg_ℤ, List, slice_index}
use Rattle.std.specs.Int.{bit_at}
use Rattle.std.specs.List.{list_all, range_with_len}
use Rattle.jxlm_tree.specs.ClusterTables.{slot}

-- leaf i is in a set
unfoldable pub has : ℕ → ℕ → Bool
has set i = bit_at set i == 1

-- the set of a table for x: its first one serves all up to -1024, each other one the next value, and the last all from
-- 1023 on
unfoldable pub set_for : List ℕ → ℕ → ℤ → ℕ
set_for sets table x = slice_index sets (table * 2048 + slot (neg_ℤ (pos 1024)) 2047 x)

-- no table rules leaf i out: for each k below 7, the set of property 9 + k of f has it
abbrev pub stays : List ℕ → (ℕ → ℤ) → ℕ → Bool
stays sets f i = list_all (λ k. has (set_for sets k (f (9 + k))) i) (range_with_len 0 7)
