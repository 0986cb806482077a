-- Which earlier channels decisions ask for (ISO/IEC 18181-1, Modular: properties).
use Rattle.std.specs.Prelude.{ℕ, ◌+◌, ◌-◌, ◌/◌, nat_lt, if◌then◌else◌, max}
use Rattle.jxlm_ma_tree.specs.Tree.{Shape, leaf, decision}
use Rattle.jxlm_ma_tree.specs.declared.leaf.Leaf.{Leaf}

-- which earlier channel a property is of, counted from 1; 0 where it is of none
abbrev pub earlier_of : ℕ → ℕ
earlier_of k = if nat_lt k 16 then 0 else (k - 16) / 4 + 1

-- how many earlier channels a walk can ask for: the farthest of which a property is somewhere in the tree
abbrev pub earlier_named : Shape Leaf → ℕ
earlier_named (leaf l) = 0
earlier_named (decision k value left right) = max (earlier_of k) (max (earlier_named left) (earlier_named right))
