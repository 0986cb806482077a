-- The leaf to which a tree leads at a cell, and the steps to it (ISO/IEC 18181-1, Modular: meta-adaptive trees).
use Rattle.std.specs.Prelude.{◌≡◌, ℕ, ◌+◌, ◌≤◌, ℤ, Bool, List}
use Rattle.jxlm_base.specs.Grid.{Grid}
use Rattle.jxlm_base.specs.Regions.{store_meanings}
use Rattle.jxlm_tree.specs.FlatTree.{FlatTree, HasMultiplier, leaf_reached}
use Rattle.jxlm_tree.specs.Tree.{Shape, StandsAtLeaf, depth}
use Rattle.jxlm_ma_tree.specs.declared.leaf.Leaf.{Leaf}
use Rattle.jxlm_tree.specs.declared.paths.Path.{Path}
use Rattle.jxlm_tree.specs.declared.paths.Path.TheVariants as path
use Rattle.jxlm_predictor.specs.Holding.{state_of, store_of, surroundings}
use Rattle.jxlm_predictor.specs.Standing.{Setting, StandsAt}
use Rattle.jxlm_predictor.specs.declared.properties.Properties.{Properties}
use Rattle.jxlm_samples.specs.Part.{place_by}

-- the steps of a cell that is read so: by a table, or by the walk of the tree
abbrev pub steps_walked : Path → Shape Leaf → ℕ
steps_walked (path.Constant l) t = depth t + 1
steps_walked (path.Zero l) t = depth t + 1
steps_walked (path.Gradient l) t = depth t + 1
steps_walked (path.Runs l) t = depth t + 1
steps_walked (path.Clusters c) t = 1
steps_walked (path.GradientClusters c) t = depth t + 1
steps_walked path.Tree t = depth t + 1

-- the leaf to which a flat tree leads where a state was set so, after these samples, and property 9 is clamped or not
abbrev pub leaf_at : Bool → FlatTree → Setting → List (Grid ℤ) → List ℤ → Leaf
leaf_at clamped flat s store samples = leaf_reached flat (place_by clamped (surroundings s store samples))

-- the leaf to which the tree leads at a cell with these properties, wherever the state is at that cell
abbrev pub IsReached : {X : Type 0} → Bool → FlatTree → (X → ℤ) → Properties X → Leaf → Type 0
IsReached clamped flat to_int properties l = (s : Setting) (samples : List ℤ) → StandsAt (state_of properties) s samples →
    l ≡ leaf_at clamped flat s (store_meanings to_int (store_of properties)) samples

-- the leaf to which the tree leads where each property is this number, found in at most this number of steps
pub record IsFoundBy (flat : FlatTree) (number : ℤ) (before after most : ℕ) (l : Leaf) : Type 0 where
  pub leaf : l ≡ leaf_reached flat (λ k. number)
  pub stands : StandsAtLeaf flat.tree l
  pub multiplier : HasMultiplier l
  pub cost : after ≤ before + most
  pub more : before ≤ after

-- it is that leaf, found in at most this number of steps
pub record IsFound {X : Type 0} (clamped : Bool) (flat : FlatTree) (to_int : X → ℤ) (properties : Properties X)
    (before after most : ℕ) (l : Leaf) : Type 0 where
  pub leaf : IsReached clamped flat to_int properties l
  pub stands : StandsAtLeaf flat.tree l
  pub multiplier : HasMultiplier l
  pub cost : after ≤ before + most
  pub more : before ≤ after
