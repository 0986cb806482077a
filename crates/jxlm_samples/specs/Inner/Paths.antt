-- How the rows of a channel are read, and the cells of a row.
use Rattle.std.specs.Prelude.{◌≡◌, ℕ, zero, suc, ◌+◌, ◌≤◌, ℤ, pos, FitsSigned, List, [], length, map, Bool, true, false, Contains, IsSome}
use Rattle.std.specs.Int.{Width, w32}
use Rattle.jxlm_bits.specs.Decoding.{Meaning}
use Rattle.jxlm_base.specs.Grid.{Grid, row as grid_row}
use Rattle.jxlm_tree.specs.ClusterTables.{IsTableOf, table_leaf}
use Rattle.jxlm_tree.specs.FlatTree.{FlatTree, HasMultiplier}
use Rattle.jxlm_tree.specs.Paths.{Gives, IsLeafOf, IsOnGradient, IsPlainGradient, steps_on}
use Rattle.jxlm_tree.specs.Steps.{most_steps}
use Rattle.jxlm_tree.specs.Tree.{Shape}
use Rattle.jxlm_ma_tree.specs.declared.leaf.Leaf.{Leaf}
use Rattle.jxlm_tree.specs.declared.paths.Path.{Path}
use Rattle.jxlm_tree.specs.declared.paths.Path.TheVariants as path
use Rattle.jxlm_predictor.specs.declared.predictor.Predictor.TheVariants as predictor
use Rattle.jxlm_samples.specs.Coded.{sample_of}
use Rattle.jxlm_samples.specs.RowNeighbours.{gradient_in, north_west_in, property_9_in, west_in}
use Rattle.jxlm_samples.specs.Rule.{Rule}
use Rattle.jxlm_samples.specs.declared.coding.ChannelTree.{ChannelTree}
use Rattle.jxlm_samples.specs.declared.gradient.Leaves.{Leaves}
use Rattle.jxlm_samples.specs.declared.gradient.Leaves.TheVariants.{One, Table}

-- what a path says of its leaves, under whatever decoder
abbrev pub Allows : Path → Type 0
Allows (path.Constant l) = l.predictor ≡ predictor.Zero
Allows (path.Zero l) = l.predictor ≡ predictor.Zero
Allows (path.Gradient l) = IsPlainGradient l
Allows (path.Runs l) = IsPlainGradient l
Allows (path.Clusters c) = Unit {0}
Allows (path.GradientClusters c) = IsOnGradient c.now
Allows path.Tree = Unit {0}

-- the path's rows are read cell by cell, in a state of the predictors
abbrev pub is_walked : Path → Bool
is_walked (path.Constant l) = false
is_walked (path.Zero l) = false
is_walked (path.Gradient l) = false
is_walked (path.Runs l) = false
is_walked (path.Clusters c) = true
is_walked (path.GradientClusters c) = false
is_walked path.Tree = true

-- the cells of a channel with this tree are read by its sets of leaves: it has them, the path is the walk of the tree, and
-- property 9 is not clamped
pub record HasSets (c : ChannelTree) (clamped : Bool) (p : Path) : Type 0 where
  pub some : IsSome c.sets
  pub unclamped : clamped ≡ false
  pub walks : p ≡ path.Tree

-- a leaf with a multiplier, whose cluster is one of these
pub record IsReadable (clusters : List ℕ) (l : Leaf) : Type 0 where
  pub cluster : Contains clusters l.cluster
  pub multiplier : HasMultiplier l

-- so is the leaf that predicts by 0, on a path that has one
abbrev pub IsReadableZero : List ℕ → Path → Type 0
IsReadableZero clusters (path.Constant l) = IsReadable clusters l
IsReadableZero clusters (path.Zero l) = IsReadable clusters l
IsReadableZero clusters (path.Gradient l) = Unit {0}
IsReadableZero clusters (path.Runs l) = Unit {0}
IsReadableZero clusters (path.Clusters c) = Unit {0}
IsReadableZero clusters (path.GradientClusters c) = Unit {0}
IsReadableZero clusters path.Tree = Unit {0}

-- a path that gives what the tree's walks give, in no more steps, and needs no state of the predictors
pub record IsLonePath (t : FlatTree) (p : Path) : Type 0 where
  pub gives : Gives t p
  pub allows : Allows p
  pub steps : steps_on p t.tree ≤ most_steps t.tree
  pub alone : is_walked p ≡ false

-- the leaf where property 9 is x
abbrev pub leaf_by : Leaves → ℤ → Leaf
leaf_by (One l) x = l
leaf_by (Table c) x = table_leaf c.now x

-- the steps to it
abbrev pub steps_by : Leaves → ℕ
steps_by (One l) = 0
steps_by (Table c) = 1

-- they are those of a table
abbrev pub are_of_table : Leaves → Bool
are_of_table (One l) = false
are_of_table (Table c) = true

-- a leaf that adds nothing but the prediction
pub record IsPlain (l : Leaf) : Type 0 where
  pub offset : l.offset ≡ pos 0
  pub multiplier : l.multiplier ≡ 1

-- each leaf predicts by the clamped gradient alone, from one of these clusters
pub record AreGradients (clusters : List ℕ) (leaves : Leaves) : Type 0 where
  pub plain : (x : ℤ) → IsPlainGradient (leaf_by leaves x)
  pub known : (x : ℤ) → FitsSigned w32 x → Contains clusters (leaf_by leaves x).cluster

-- the tree's walks lead to these leaves, which predict so
abbrev pub AreLeavesOf : FlatTree → Leaves → Type 0
AreLeavesOf t (One l) = IsLeafOf t l × IsPlainGradient l
AreLeavesOf t (Table c) = IsTableOf t c.now × IsOnGradient c.now

-- two samples are those to the left of column x of a row, and above that one
pub record AreLeft {X : Type 0} (to_int : X → ℤ) (above row : List X) (x : ℕ) (w nw : X) : Type 0 where
  pub west : to_int w ≡ west_in (map to_int above) (map to_int row) x
  pub north_west : to_int nw ≡ north_west_in (map to_int above) (map to_int row) x

-- the row above row y of a grid; none above the first
abbrev pub row_above : Grid ℤ → ℕ → List ℤ
row_above g zero = []
row_above g (suc y) = grid_row g y

-- cells that are each read at a leaf, over a prediction, by the cells of the row before
abbrev pub leaf_rule : {S : Type 0} → Meaning S → Width → List ℕ → ℕ → (List ℤ → Leaf) → (List ℤ → ℤ) → Rule S
leaf_rule d w bytes widest leaf predicted = record {
  read = λ row s p. d.read s bytes p (leaf row).cluster widest;
  value = λ row token. sample_of w (leaf row) (predicted row) token;
}

-- at one leaf, over 0
abbrev pub zero_rule : {S : Type 0} → Meaning S → Width → List ℕ → ℕ → Leaf → Rule S
zero_rule d w bytes widest l = leaf_rule d w bytes widest (λ row. l) (λ row. pos 0)

-- over the clamped gradient, at the leaf where property 9 is as it is there
abbrev pub gradient_rule : {S : Type 0} → Meaning S → Width → Bool → List ℕ → ℕ → Leaves → List ℤ → Rule S
gradient_rule d w clamp_sum bytes widest leaves above =
    leaf_rule d w bytes widest (λ row. leaf_by leaves (property_9_in above row clamp_sum (length row))) (λ row. gradient_in above row (length row))
