-- Lists of flat nodes, and the walk over them.
use Rattle.std.specs.Prelude.{◌≡◌, ℕ, ◌+◌, ◌-◌, ◌*◌, ◌<◌, ◌≤◌, ◌==◌, nat_lt, ℤ, pos, ◌+ℤ◌, ◌-ℤ◌, ◌≤ℤ◌, int_lt, if◌then◌else◌, List, [], ◌∷◌, ◌++◌, length, slice_index, IsSome, Bool, true, false, ◌||◌, max, fold, ◌/◌}
use Rattle.jxlm_ma_tree.specs.declared.leaf.Leaf.{Leaf}
use Rattle.jxlm_tree.specs.declared.flat.Side.{Side}
use Rattle.jxlm_tree.specs.declared.flat.FlatNode.{FlatNode}
use Rattle.jxlm_tree.specs.declared.flat.FlatNode.TheVariants as node
use Rattle.jxlm_predictor.specs.declared.predictor.Predictor.TheVariants.{Zero}
use Rattle.jxlm_predictor.specs.Predictions.{is_self_correcting}
use Rattle.jxlm_tree.specs.CompiledNodes.{takes}
pub use Rattle.jxlm_tree.specs.ClusterTables.{slot}
use Rattle.jxlm_ma_tree.specs.Tree.{Shape, StandsAtLeaf, walk, depth}
use Rattle.jxlm_tree.specs.Inner.FlatShapes.{size, Lacks}
use Rattle.jxlm_tree.specs.ShortTrees.{MeetsOnce, TestsOnly, Fits}
use Rattle.jxlm_ma_tree.specs.Marked.{asks_for}
use Rattle.jxlm_tree.specs.Inner.Chosen.{chosen, hanging}
use Rattle.jxlm_ma_tree.specs.Cuts.{tabled}

-- the end of a side, where y answers its question
abbrev pub side_end : Side → ℤ → ℕ
side_end s y = if int_lt s.value y then s.above else s.rest

-- a property that was asked for, and the answer
pub record Heard : Type 0 where
  pub property : ℕ
  pub answer : ℤ

abbrev pub heard : ℕ → ℤ → Heard
heard k x = record { property = k; answer = x }

-- the answers are those of f
abbrev pub AreOf : (ℕ → ℤ) → List Heard → Type 0
AreOf f [] = Unit {0}
AreOf f (h ∷ rest) = (h.answer ≡ f h.property) × AreOf f rest

-- how the first question of a node is answered, and how its second one
pub record Answers : Type 0 where
  pub first : ℕ → ℤ
  pub second : ℕ → ℤ

-- both as f has it
abbrev pub alike : (ℕ → ℤ) → Answers
alike f = record { first = f; second = f }

-- what a node says: a leaf, or the node to go on at and what was heard
pub data Says : Type 0 where
  stop : Leaf → Says
  go : ℕ → List Heard → Says

-- the side that is chosen asks too
abbrev pub side_says : ℕ → ℤ → Side → (ℕ → ℤ) → Says
side_says property x s second = go (side_end s (second s.property)) (heard property x ∷ heard s.property (second s.property) ∷ [])

abbrev pub says : FlatNode → Answers → Says
says (node.Leaf l) a = stop l
says (node.Table property base entries) a =
    go (slice_index entries.items (slot base (length entries.items - 1) (a.first property))) (heard property (a.first property) ∷ [])
says (node.Fused property value left right) a =
    if int_lt value (a.first property)
    then side_says property (a.first property) left a.second
    else side_says property (a.first property) right a.second

-- a leaf, how many nodes were read to find it, and what was heard
pub record Reached : Type 0 where
  pub leaf : Leaf
  pub looks : ℕ
  pub heard : List Heard

abbrev pub nowhere : Reached
nowhere = record { leaf = record { cluster = 0; predictor = Zero; offset = pos 0; multiplier = 0 }; looks = 0; heard = [] }

abbrev pub onward : Says → (ℕ → Reached) → Reached
onward (stop l) after = record { leaf = l; looks = 1; heard = [] }
onward (go i answers) after = record { leaf = (after i).leaf; looks = (after i).looks + 1; heard = answers ++ (after i).heard }

-- The walk from a node, in a list whose newest node comes first: each node leads to older ones. Node i is answered by
-- a i, so that a property may be answered otherwise at another node.
abbrev pub reached : List FlatNode → ℕ → (ℕ → Answers) → Reached
reached [] i a = nowhere
reached (n ∷ older) i a = if i == length older then onward (says n (a i)) (λ j. reached older j a) else reached older i a

-- each first answer is an `i32`
abbrev pub FirstFit : (ℕ → Answers) → Type 0
FirstFit a = (i : ℕ) → Fits (a i).first

-- a node leads only to nodes below k
abbrev pub LeadsBelow : ℕ → FlatNode → Type 0
LeadsBelow k (node.Leaf l) = Unit {0}
LeadsBelow k (node.Table property base entries) = ((0 < length entries.items) × (length entries.items ≤ 1024)) × ((j : ℕ) → j < length entries.items → slice_index entries.items j < k)
LeadsBelow k (node.Fused property value left right) = ((left.above < k) × (left.rest < k)) × ((right.above < k) × (right.rest < k))

-- each node leads to older ones, and no table is longer than 1024
abbrev pub IsSound : List FlatNode → Type 0
IsSound [] = Unit {0}
IsSound (n ∷ older) = LeadsBelow (length older) n × IsSound older

abbrev pub IsTable : Shape Leaf → Type 0
IsTable t = IsSome (tabled t)

-- how many nodes a walk may read
pub record Few (t : Shape Leaf) (looks : ℕ) : Type 0 where
  pub most : looks ≤ depth t + 1
  pub half : MeetsOnce t → 2 * looks ≤ depth t + 3
  pub two : (p : ℕ) → TestsOnly p t → IsTable t → looks ≡ 2
  pub one : depth t ≡ 0 → looks ≡ 1

-- a node tests no property that `p` names, and is no leaf that `q` names
abbrev pub NodeLacks : (ℕ → Bool) → (Leaf → Bool) → FlatNode → Type 0
NodeLacks p q (node.Leaf l) = q l ≡ false
NodeLacks p q (node.Table property base entries) = p property ≡ false
NodeLacks p q (node.Fused property value left right) = (p property ≡ false) × ((p left.property ≡ false) × (p right.property ≡ false))

abbrev pub NodesLack : (ℕ → Bool) → (Leaf → Bool) → List FlatNode → Type 0
NodesLack p q [] = Unit {0}
NodesLack p q (n ∷ older) = NodeLacks p q n × NodesLack p q older

-- the nodes that are new test only what the tree tests, or property 0, and hold only its leaves
pub record Keeps (old new : List FlatNode) (t : Shape Leaf) : Type 0 where
  pub keeps : (p : ℕ → Bool) (q : Leaf → Bool) → p 0 ≡ false → Lacks p q t → NodesLack p q old → NodesLack p q new

-- the walk from node i is the walk of the tree
pub record Serves (nodes : List FlatNode) (i : ℕ) (t : Shape Leaf) : Type 0 where
  pub within : i < length nodes
  pub leads : (a : ℕ → Answers) (f : ℕ → ℤ) → FirstFit a → AreOf f (reached nodes i a).heard → (reached nodes i a).leaf ≡ walk t f
  pub stands : (a : ℕ → Answers) → FirstFit a → StandsAtLeaf t (reached nodes i a).leaf
  pub few : (a : ℕ → Answers) → FirstFit a → Few t (reached nodes i a).looks

-- the same for a side of a fused node, where y answers its question
pub record SideServes (nodes : List FlatNode) (s : Side) (t : Shape Leaf) : Type 0 where
  pub above : s.above < length nodes
  pub rest : s.rest < length nodes
  pub leads : (y : ℤ) (a : ℕ → Answers) (f : ℕ → ℤ) → FirstFit a → y ≡ f s.property → AreOf f (reached nodes (side_end s y) a).heard → (reached nodes (side_end s y) a).leaf ≡ walk t f
  pub stands : (y : ℤ) (a : ℕ → Answers) → FirstFit a → StandsAtLeaf t (reached nodes (side_end s y) a).leaf
  pub most : (y : ℤ) (a : ℕ → Answers) → FirstFit a → (reached nodes (side_end s y) a).looks ≤ depth t + 1
  pub half : (y : ℤ) (a : ℕ → Answers) → FirstFit a → MeetsOnce t → 2 * (reached nodes (side_end s y) a).looks ≤ depth t + 2

-- the walks from the nodes that were there stay, and at most `more` nodes are new
pub record Grows (old new : List FlatNode) (more : ℕ) : Type 0 where
  pub longer : length old ≤ length new
  pub few : length new ≤ length old + more
  pub sound : IsSound old → IsSound new
  pub same : (i : ℕ) (a : ℕ → Answers) → i < length old → reached new i a ≡ reached old i a

-- a table node for a decision on its property: its entry j serves what base + j chooses
abbrev pub IsTableOf : FlatNode → List FlatNode → Shape Leaf → Type 0
IsTableOf (node.Table q base entries) older t =
    (asks_for q t ≡ true) × ((j : ℕ) → j < length entries.items → Serves older (slice_index entries.items j) (chosen q (base +ℤ pos j) t))
IsTableOf (node.Leaf l) older t = ⊥
IsTableOf (node.Fused property value left right) older t = ⊥

-- the newest node stands for the tree, as a table where the tree asks for one
pub record Tops (nodes : List FlatNode) (i : ℕ) (t : Shape Leaf) : Type 0 where
  pub node : FlatNode
  pub older : List FlatNode
  pub newest : nodes ≡ node ∷ older
  pub place : i ≡ length older
  pub table : IsTable t → IsTableOf node older t

-- a node for a tree is added, with those below it
pub record Compiles (old new : List FlatNode) (i : ℕ) (t : Shape Leaf) : Type 0 where
  pub grows : Grows old new (size t)
  pub serves : Serves new i t
  pub tops : Tops new i t
  pub keeps : Keeps old new t
  pub count : length new ≡ length old + (takes t).own

pub record CompilesSide (fallback : ℕ) (old new : List FlatNode) (s : Side) (t : Shape Leaf) : Type 0 where
  pub grows : Grows old new (size t)
  pub serves : SideServes new s t
  pub keeps : Keeps old new t
  pub count : length new ≡ length old + (takes t).side
  pub tests : (p : ℕ → Bool) (q : Leaf → Bool) → p fallback ≡ false → Lacks p q t → p s.property ≡ false

-- entries are added: one for each x in low..=high, which leads to the tree that x chooses
pub record Fills (old new : List FlatNode) (before after : List ℕ) (p : ℕ) (low high : ℤ) (t : Shape Leaf) : Type 0 where
  pub grows : Grows old new (hanging p t)
  pub keeps : Keeps old new t
  pub count : length new ≡ length old + (takes t).within p low high
  pub longer : pos (length after) ≡ (pos (length before) +ℤ ((high -ℤ low) +ℤ pos 1))
  pub kept : (k : ℕ) → k < length before → slice_index after k ≡ slice_index before k
  pub each : (k : ℕ) (x : ℤ) → low ≤ℤ x → x ≤ℤ high → pos k ≡ (pos (length before) +ℤ (x -ℤ low)) → Serves new (slice_index after k) (chosen p x t)

-- a node that asks for the self-correcting predictor: it tests property 15, or is a leaf that predicts by it
abbrev pub is_error : ℕ → Bool
is_error k = k == 15

abbrev pub corrects : Leaf → Bool
corrects l = is_self_correcting l.predictor

abbrev pub sees_error : FlatNode → Bool
sees_error (node.Leaf l) = is_self_correcting l.predictor
sees_error (node.Table property base entries) = property == 15
sees_error (node.Fused property value left right) = property == 15 || (left.property == 15 || right.property == 15)

-- what a walk that needs no self-correcting predictor keeps to: property 15 is not seen, and no leaf predicts by it
pub record Spares (nodes : List FlatNode) (root : ℕ) : Type 0 where
  pub same : (f g : ℕ → ℤ) → ((k : ℕ) → (k ≡ 15 → ⊥) → f k ≡ g k) → (reached nodes root (λ i. alike f)).leaf ≡ (reached nodes root (λ i. alike g)).leaf
  pub leaf : (a : ℕ → Answers) → is_self_correcting (reached nodes root a).leaf.predictor ≡ false

-- how many earlier channels must be there for a property: 0 below property 16
abbrev pub channels_of : ℕ → ℕ
channels_of k = if nat_lt k 16 then 0 else (k - 16) / 4 + 1

abbrev pub node_channels : FlatNode → ℕ
node_channels (node.Leaf l) = 0
node_channels (node.Table property base entries) = channels_of property
node_channels (node.Fused property value left right) = max (channels_of property) (max (channels_of left.property) (channels_of right.property))

abbrev pub most_channels : List FlatNode → ℕ
most_channels nodes = fold (λ most n. max most (node_channels n)) 0 nodes

-- property k is of earlier channel d
abbrev pub of_channel : ℕ → ℕ → Bool
of_channel d k = channels_of k == d + 1

abbrev pub no_leaf : Leaf → Bool
no_leaf l = false
