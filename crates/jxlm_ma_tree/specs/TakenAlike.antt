-- When decisions that are known beforehand are taken alike for two channels.
use Rattle.std.specs.Prelude.{ℕ, ◌&&◌, not, Bool, true, false, ℤ, Option, Some, None}
use Rattle.jxlm_ma_tree.specs.Tree.{Shape, leaf, decision}
use Rattle.jxlm_ma_tree.specs.declared.leaf.Leaf.{Leaf}

-- what is asked of a decision's sides, given where it goes for the one channel and for the other
abbrev pub goes_alike : Option Bool → Option Bool → Bool → Bool → Bool
goes_alike None there left right = left && right
goes_alike (Some here) None left right = false
goes_alike (Some true) (Some there) left right = there && left
goes_alike (Some false) (Some there) left right = not there && right

-- each decision that is known for the one channel is known for the other, and goes to the same side, from the root on along
-- the sides that are left
abbrev pub taken_alike : (ℕ → ℤ → Option Bool) → (ℕ → ℤ → Option Bool) → Shape Leaf → Bool
taken_alike here there (leaf l) = true
taken_alike here there (decision k value left right) = goes_alike (here k value) (there k value) (taken_alike here there left) (taken_alike here there right)
