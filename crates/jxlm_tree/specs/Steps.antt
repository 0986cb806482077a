-- How many steps a sample takes at most, by the shape of its tree.
use Rattle.std.specs.Prelude.{ℕ, ◌+◌, ◌==◌, ◌&&◌, ◌||◌, not, nat_lt, Bool, true, ℤ, pos, neg_ℤ, ◌+ℤ◌, int_lt, if◌then◌else◌, ◌^◌}
use Rattle.std.specs.Int.{int_min, int_max}
use Rattle.std.specs.Ordering.{int_eq}
use Rattle.jxlm_ma_tree.specs.Tree.{Shape, leaf, decision, depth}
use Rattle.jxlm_ma_tree.specs.declared.leaf.Leaf.{Leaf}
use Rattle.jxlm_predictor.specs.Predictions.{number_of}

-- the leaves agree in all but the cluster
abbrev pub are_alike : Leaf → Leaf → Bool
are_alike l m = number_of l.predictor == number_of m.predictor && (int_eq l.offset m.offset && l.multiplier == m.multiplier)

-- the gradient with nothing to add and nothing to multiply by
abbrev pub plain_gradient : Leaf → Bool
plain_gradient l = number_of l.predictor == 5 && (int_eq l.offset (pos 0) && l.multiplier == 1)

-- every decision tests the property
abbrev pub tests_only : ℕ → Shape Leaf → Bool
tests_only p (leaf l) = true
tests_only p (decision q value left right) = q == p && (tests_only p left && tests_only p right)

-- each cut is one of these
abbrev pub each_cut : (ℤ → Bool) → Shape Leaf → Bool
each_cut is (leaf l) = true
each_cut is (decision q value left right) = is value && (each_cut is left && each_cut is right)

-- each leaf is one of these
abbrev pub each_leaf : (Leaf → Bool) → Shape Leaf → Bool
each_leaf is (leaf l) = is l
each_leaf is (decision q value left right) = each_leaf is left && each_leaf is right

-- no two cuts differ by more than n
abbrev pub cuts_within : ℕ → Shape Leaf → Bool
cuts_within n t = each_cut (λ v. each_cut (λ w. not (int_lt (v +ℤ pos n) w)) t) t

-- how many leaves are reached by properties that are all one number in low..=high
abbrev pub leaves_within : ℤ → ℤ → Shape Leaf → ℕ
leaves_within low high (leaf l) = if int_lt high low then 0 else 1
leaves_within low high (decision q value left right) =
    leaves_within (int_max low (value +ℤ pos 1)) high left + leaves_within low (int_min high value) right

-- the leaf of which all decisions speak first
abbrev pub leftmost : Shape Leaf → Leaf
leftmost (leaf l) = l
leftmost (decision q value left right) = leftmost left

-- a tree that a table serves: it tests one property of the cell with near cuts, four leaves or more are reached by
-- 32-bit numbers, and its leaves agree in all but the cluster
abbrev pub is_tabular : ℕ → Shape Leaf → Bool
is_tabular p t =
    (nat_lt 1 p && nat_lt p 16)
    && ((tests_only p t && cuts_within 1022 t)
    && (nat_lt 3 (leaves_within (neg_ℤ (pos (2 ^ 31))) (pos 2147483647) t) && each_leaf (are_alike (leftmost t)) t))

-- no step for one leaf that predicts by `Zero` or by the plain gradient, one for a tree that a table serves, and else
-- one for each node on the longest way
abbrev pub most_steps : Shape Leaf → ℕ
most_steps (leaf l) = if number_of l.predictor == 0 || plain_gradient l then 0 else 1
most_steps (decision p value left right) =
    if is_tabular p (decision p value left right) then 1 else depth (decision p value left right) + 1
