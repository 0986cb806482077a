-- How many nodes a tree is compiled to for the samples of a channel.
use Rattle.std.specs.Prelude.{◌≡◌, ℕ, ◌+◌, ◌*◌, ◌==◌, ◌&&◌, ◌||◌, not, nat_lt, Bool, true, false, ℤ, pos, ◌+ℤ◌, int_lt, if◌then◌else◌, List, length, fold}
use Rattle.std.specs.Int.{int_min, int_max}
use Rattle.jxlm_tree.specs.FlatTree.{FlatTree, property_of}
use Rattle.jxlm_ma_tree.specs.Tree.{Shape, leaf, decision}
use Rattle.jxlm_ma_tree.specs.declared.leaf.Leaf.{Leaf}
use Rattle.jxlm_ma_tree.specs.Cuts.{cuts, least, greatest}

-- a property is known beforehand: the channel, the stream, or one of an earlier channel that there is none of
abbrev pub is_known : FlatTree → ℕ → Bool
is_known t k = k == 0 || (k == 1 || not (nat_lt k (16 + 4 * t.prev_channels)))

-- the tree once each decision on such a property is taken
abbrev pub prune : FlatTree → Shape Leaf → Shape Leaf
prune t (leaf l) = leaf l
prune t (decision k value left right) =
    if is_known t k
    then (if int_lt value (property_of t (λ _. pos 0) k) then prune t left else prune t right)
    else decision k value (prune t left) (prune t right)

-- cuts make a table: of four ranges or more, and the greatest less the least is at most 1022
abbrev pub make_table : List ℤ → Bool
make_table cs = nat_lt 2 (length cs) && not (int_lt (fold int_min greatest cs +ℤ pos 1022) (fold int_max least cs))

-- a table serves the root's property
abbrev pub has_table : Shape Leaf → Bool
has_table (leaf l) = false
has_table (decision p v left right) = make_table (cuts p least greatest (decision p v left right))

-- how many nodes a tree takes: by itself; as a side of a node of two tests; and, below a table on property p, for the
-- values in low..=high
pub record Takes : Type 0 where
  pub own : ℕ
  pub side : ℕ
  pub within : ℕ → ℤ → ℤ → ℕ

-- nothing where no value is
abbrev pub if_any : ℤ → ℤ → ℕ → ℕ
if_any low high n = if int_lt high low then 0 else n

-- a cut gives each side its values
abbrev pub nodes_of_sides : ℕ → ℤ → ℤ → ℤ → Takes → Takes → ℕ
nodes_of_sides p low high v left right = left.within p (int_max low (v +ℤ pos 1)) high + right.within p low (int_min high v)

-- a table is a node, and decisions on its property take no other one; else a decision is a node with both its sides, and
-- a side takes none for its own test
abbrev pub takes_decision : Bool → ℕ → ℤ → Takes → Takes → Takes
takes_decision table p v left right =
    let own = if table then 1 + nodes_of_sides p least greatest v left right else 1 + (left.side + right.side) in
    record {
      own = own;
      side = if table then own else left.own + right.own;
      within = λ q low high. if p == q then nodes_of_sides q low high v left right else if_any low high own;
    }

abbrev pub takes : Shape Leaf → Takes
takes (leaf l) = record { own = 1; side = 1; within = λ p low high. if_any low high 1 }
takes (decision p v left right) = takes_decision (has_table (decision p v left right)) p v (takes left) (takes right)

-- the nodes of the tree as it is compiled
abbrev pub flat_nodes : FlatTree → ℕ
flat_nodes t = (takes (prune t t.tree)).own

-- every decision asks for a property that is known beforehand
abbrev pub AsksKnown : FlatTree → Shape Leaf → Type 0
AsksKnown t (leaf l) = Unit {0}
AsksKnown t (decision k value left right) = (is_known t k ≡ true) × (AsksKnown t left × AsksKnown t right)
