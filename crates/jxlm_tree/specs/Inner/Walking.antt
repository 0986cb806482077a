-- How far a walk over flat nodes has come.
use Rattle.std.specs.Prelude.{◌≡◌, ℕ, ◌+◌, ◌<◌, ℤ, List, length}
use Rattle.jxlm_tree.specs.FlatTree.{PropertiesAre}
use Rattle.jxlm_tree.specs.Inner.FlatNodes.{Answers, AreOf, FirstFit, reached, side_end}
use Rattle.jxlm_tree.specs.declared.flat.FlatNode.{FlatNode}
use Rattle.jxlm_ma_tree.specs.declared.leaf.Leaf.{Leaf}
use Rattle.jxlm_tree.specs.declared.flat.Side.{Side}

module _ {P : Type 0} (gives : P → ℕ → ℤ → Type 0) (properties : P) where
  -- the end of a side, by an answer that was given to its question
  pub record EndsAt (s : Side) (end : ℕ) : Type 0 where
    pub answer : ℤ
    pub given : gives properties s.property answer
    pub end_is : end ≡ side_end s answer

  -- by these answers the walk from the root is the one from this node on; it read `before` less `now` nodes to come there
  pub record Continues (nodes : List FlatNode) (root place before now : ℕ) (a : ℕ → Answers) : Type 0 where
    pub leaf : (reached nodes root a).leaf ≡ (reached nodes place a).leaf
    pub looks : now + (reached nodes place a).looks ≡ before + (reached nodes root a).looks
    pub heard : (f : ℕ → ℤ) → PropertiesAre gives properties f → AreOf f (reached nodes place a).heard → AreOf f (reached nodes root a).heard

  -- the walk from the root came to this node by answers that were given, whatever is answered from there on
  pub record Walked (nodes : List FlatNode) (root place before now : ℕ) : Type 0 where
    pub within : place < length nodes
    pub answers : ℕ → Answers
    pub fit : FirstFit answers
    pub goes_on : (a : ℕ → Answers) → ((i : ℕ) → place < i → a i ≡ answers i) → Continues nodes root place before now a

  -- where a walk ends, what was reached from the root
  pub record Ended (nodes : List FlatNode) (root before now : ℕ) (l : Leaf) : Type 0 where
    pub answers : ℕ → Answers
    pub fit : FirstFit answers
    pub leaf : (reached nodes root answers).leaf ≡ l
    pub looks : now ≡ before + (reached nodes root answers).looks
    pub heard : (f : ℕ → ℤ) → PropertiesAre gives properties f → AreOf f (reached nodes root answers).heard
