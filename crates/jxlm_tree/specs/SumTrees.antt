-- Trees that ask for property 9 alone, by which property 9 can be clamped.
use Rattle.std.specs.Prelude.{◌≡◌, ℕ, ◌==◌, ◌&&◌, ◌||◌, nat_lt, nat_le, ℤ, pos, neg_ℤ, int_le, int_lt, if◌then◌else◌, Bool, true, false}
use Rattle.std.specs.Int.{w32, int_wrap}
use Rattle.std.specs.Ordering.{int_eq}
use Rattle.jxlm_tree.specs.FlatTree.{FlatTree, leaf_reached}
use Rattle.jxlm_ma_tree.specs.Tree.{Shape, leaf, decision}
use Rattle.jxlm_ma_tree.specs.declared.leaf.Leaf.{Leaf}
use Rattle.jxlm_predictor.specs.declared.predictor.Predictor.{Predictor}
use Rattle.jxlm_predictor.specs.declared.predictor.Predictor.TheVariants.{Gradient}
use Rattle.jxlm_predictor.specs.Sums.{clamp_sum}

-- of all predictors, the clamped gradient
abbrev pub is_gradient : Predictor → Bool
is_gradient Gradient = true
is_gradient other = false

-- the leaves that such a tree may have: they predict by the gradient, with an offset and a multiplier of 8 bits if its cuts are
-- near, and with offset 0 and multiplier 1 if they are wide
abbrev pub is_sum_leaf : Bool → Leaf → Bool
is_sum_leaf false l =
    is_gradient l.predictor && (int_le (neg_ℤ (pos 128)) l.offset && (int_le l.offset (pos 127) && nat_le l.multiplier 127))
is_sum_leaf true l = is_gradient l.predictor && (int_eq l.offset (pos 0) && l.multiplier == 1)

-- its cuts, near or wide
abbrev pub is_sum_cut : Bool → ℤ → Bool
is_sum_cut false v = int_le (neg_ℤ (pos 513)) v && int_le v (pos 510)
is_sum_cut true v = int_le (neg_ℤ (pos 8193)) v && int_le v (pos 8190)

-- decisions on channel and stream taken, all others are on property 9 with such cuts, and all leaves are such leaves
abbrev pub takes_sums : Bool → ℤ → ℤ → Shape Leaf → Bool
takes_sums wide channel stream (leaf l) = is_sum_leaf wide l
takes_sums wide channel stream (decision k v left right) =
    if nat_lt k 2
    then (if int_lt v (if k == 0 then channel else stream) then takes_sums wide channel stream left else takes_sums wide channel stream right)
    else k == 9 && (is_sum_cut wide v && (takes_sums wide channel stream left && takes_sums wide channel stream right))

-- so it is for the samples of a channel of a stream, with near cuts or with wide ones
abbrev pub takes_sums_at : ℕ → ℕ → Shape Leaf → Bool
takes_sums_at channel stream t =
    takes_sums false (int_wrap w32 (pos channel)) (int_wrap w32 (pos stream)) t || takes_sums true (int_wrap w32 (pos channel)) (int_wrap w32 (pos stream)) t

-- a walk goes by property 9 alone
abbrev pub GoesBySum : FlatTree → Type 0
GoesBySum t = (f g : ℕ → ℤ) → f 9 ≡ g 9 → leaf_reached t f ≡ leaf_reached t g

-- and leads by the clamped sum to the leaf of the exact one
abbrev pub KeepsSums : FlatTree → Type 0
KeepsSums t = (f g : ℕ → ℤ) → f 9 ≡ clamp_sum (g 9) → leaf_reached t f ≡ leaf_reached t g
