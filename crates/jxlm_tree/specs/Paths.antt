-- How the samples of a channel are decoded, where that takes less than a walk of the tree.
use Rattle.std.specs.Prelude.{◌≡◌, ℕ, ◌+◌, ◌≤◌, ℤ, pos, IsSome, None, true, false}
use Rattle.jxlm_bits.specs.Decoding.{Meaning}
use Rattle.jxlm_tree.specs.ClusterTables.{Clusters, IsTableOf}
use Rattle.jxlm_tree.specs.FlatTree.{FlatTree, HasMultiplier, leaf_reached}
use Rattle.jxlm_tree.specs.Steps.{is_tabular, leftmost, most_steps}
use Rattle.jxlm_ma_tree.specs.Tree.{Shape, StandsAtLeaf, depth}
use Rattle.jxlm_ma_tree.specs.declared.leaf.Leaf.{Leaf}
use Rattle.jxlm_tree.specs.declared.paths.Path.{Path}
use Rattle.jxlm_tree.specs.declared.paths.Path.TheVariants as path
use Rattle.jxlm_predictor.specs.declared.predictor.Predictor.TheVariants as predictor

-- every walk of the tree leads to this leaf
pub record IsLeafOf (t : FlatTree) (l : Leaf) : Type 0 where
  pub leaf : (f : ℕ → ℤ) → leaf_reached t f ≡ l
  pub stands : StandsAtLeaf t.tree l
  pub multiplier : HasMultiplier l

-- what a path hands gives what the tree's walks give
abbrev pub Gives : FlatTree → Path → Type 0
Gives t (path.Constant l) = IsLeafOf t l
Gives t (path.Zero l) = IsLeafOf t l
Gives t (path.Gradient l) = IsLeafOf t l
Gives t (path.Runs l) = IsLeafOf t l
Gives t (path.Clusters c) = IsTableOf t c.now
Gives t (path.GradientClusters c) = IsTableOf t c.now
Gives t path.Tree = Unit {0}

-- the gradient with nothing to add and nothing to multiply by
abbrev pub IsPlainGradient : Leaf → Type 0
IsPlainGradient l = (l.predictor ≡ predictor.Gradient) × ((l.offset ≡ pos 0) × (l.multiplier ≡ 1))

-- a table of such leaves on property 9, which is the gradient itself
abbrev pub IsOnGradient : Clusters → Type 0
IsOnGradient c = (c.property ≡ 9) × IsPlainGradient c.leaf

-- all samples of the tree's channel are read by such a table, in one step
pub record IsGradientTable (t : FlatTree) (c : Clusters) : Type 0 where
  pub table : IsTableOf t c
  pub gradient : IsOnGradient c
  pub step : 1 ≤ most_steps t.tree

-- a tree that such a table serves
abbrev pub TakesGradientTable : Shape Leaf → Type 0
TakesGradientTable t = (is_tabular 9 t ≡ true) × IsPlainGradient (leftmost t)

-- which path is named so, under a decoder in this state
abbrev pub IsNamed : {D : Type 0} → Meaning D → D → Path → Type 0
IsNamed m d (path.Constant l) = (l.predictor ≡ predictor.Zero) × IsSome (m.single_token d l.cluster)
IsNamed m d (path.Zero l) = (l.predictor ≡ predictor.Zero) × (m.single_token d l.cluster ≡ None)
IsNamed m d (path.Gradient l) = IsPlainGradient l × (m.as_rle d ≡ false)
IsNamed m d (path.Runs l) = IsPlainGradient l × (m.as_rle d ≡ true)
IsNamed m d (path.Clusters c) = IsOnGradient c.now → ⊥
IsNamed m d (path.GradientClusters c) = IsOnGradient c.now
IsNamed m d path.Tree = Unit {0}

-- the steps of a sample on a path
abbrev pub steps_on : Path → Shape Leaf → ℕ
steps_on (path.Constant l) t = 0
steps_on (path.Zero l) t = 0
steps_on (path.Gradient l) t = 0
steps_on (path.Runs l) t = 0
steps_on (path.Clusters c) t = 1
steps_on (path.GradientClusters c) t = 1
steps_on path.Tree t = depth t + 1
