-- When the nodes of a tree serve the next channel, too.
use Rattle.std.specs.Prelude.{ℕ, ◌+◌, Bool, ℤ, pos, int_lt, if◌then◌else◌, Option, Some, None}
use Rattle.jxlm_tree.specs.CompiledNodes.{is_known}
use Rattle.jxlm_tree.specs.FlatTree.{FlatTree, property_of, flat_tree}
use Rattle.jxlm_ma_tree.specs.TakenAlike.{taken_alike}

-- to which side a decision goes, where its property is known beforehand: true to the left
abbrev pub side : FlatTree → ℕ → ℤ → Option Bool
side t k value = if is_known t k then Some (int_lt value (property_of t (λ _. pos 0) k)) else None

-- the same tree for the next channel, which has one earlier channel more
abbrev pub next : FlatTree → FlatTree
next t = flat_tree t.tree (t.channel + 1) t.stream_idx (t.prev_channels + 1)

-- the next channel takes all known decisions as this one does
abbrev pub next_alike : FlatTree → Bool
next_alike t = taken_alike (side t) (side (next t)) t.tree
