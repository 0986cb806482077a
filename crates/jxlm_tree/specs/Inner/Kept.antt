-- What is always true of a tree that is kept.
use Rattle.std.specs.Prelude.{◌≡◌, ℕ, ◌≤◌, ◌^◌, List, Option, IfSome}
use Rattle.jxlm_ma_tree.specs.Tree.{AllLeaves, node_count}
use Rattle.jxlm_ma_tree.specs.TreeReading.{IsLeafOf}
use Rattle.jxlm_ma_tree.specs.TreeShape.{shape_of}
use Rattle.jxlm_tree.specs.Inner.Compiled.{ServesAnywhere}
use Rattle.jxlm_tree.specs.Inner.Streams.{ServesStreams}
use Rattle.jxlm_tree.specs.declared.flat.CompiledTree.{CompiledTree}
use Rattle.jxlm_tree.specs.declared.streams.StreamNodes.{StreamNodes}
use Rattle.jxlm_ma_tree.specs.declared.tree.MaTree.{MaTree}

-- it has n nodes, at most 2 ^ 26, no more than 2048 decisions above a leaf, and its leaves have these clusters; nodes
-- that are kept with it serve every channel, or runs of channels of every stream
pub record IsKept {R S : Type 0} (clusters : List ℕ) (t : MaTree) (nodes : R → CompiledTree) (shared : Option R) (of_streams : S → StreamNodes) (streams : Option S) (n : ℕ) : Type 0 where
  pub leaves : AllLeaves (IsLeafOf clusters) (shape_of t.root)
  pub count : n ≡ node_count (shape_of t.root)
  pub few : n ≤ 2 ^ 26
  pub shallow : t.depth ≤ 2048
  pub serves : IfSome shared (λ c. ServesAnywhere (shape_of t.root) (nodes c))
  pub serves_streams : IfSome streams (λ s. ServesStreams (shape_of t.root) (of_streams s))
