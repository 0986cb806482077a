-- What a compiled tree keeps to.
use Rattle.std.specs.Prelude.{◌≡◌, ℕ, ◌+◌, ◌<◌, ◌≤◌, ◌^◌, pos, Bool, false, List, [], length}
use Rattle.std.specs.Int.{w32, int_wrap}
use Rattle.std.specs.List.{list_any}
use Rattle.std.specs.Option.{option_map}
use Rattle.std.specs.Rc.{rc_value}
use Rattle.std.proofs.Common.{reverse}
use Rattle.jxlm_tree.specs.CompiledNodes.{takes}
use Rattle.jxlm_tree.specs.FlatTree.{HasMultiplier}
use Rattle.jxlm_ma_tree.specs.EarlierChannels.{earlier_named}
use Rattle.jxlm_tree.specs.Inner.FlatShapes.{size}
use Rattle.jxlm_tree.specs.Inner.FlatNodes.{IsSound, Keeps, Tops, Serves, most_channels, sees_error}
use Rattle.jxlm_ma_tree.specs.Pruned.{known_side, pruned, tests_place}
use Rattle.jxlm_ma_tree.specs.TakenAlike.{taken_alike}
use Rattle.jxlm_tree.specs.Inner.Tables.{TableAt}
use Rattle.jxlm_ma_tree.specs.Tree.{AllLeaves, Shape}
use Rattle.jxlm_ma_tree.specs.declared.marks.Known.{Known}
use Rattle.jxlm_tree.specs.declared.flat.CompiledTree.{CompiledTree}
use Rattle.jxlm_tree.specs.declared.flat.FlatNode.{FlatNode}
use Rattle.jxlm_ma_tree.specs.declared.leaf.Leaf.{Leaf}

-- what is known of the properties of a channel's samples beforehand
abbrev pub known_at : ℕ → ℕ → ℕ → Known
known_at channel stream earlier =
    record { channel = int_wrap w32 (pos channel); stream = int_wrap w32 (pos stream); prev_channels = earlier }

-- The nodes, the newest last, are those of the tree without the decisions that are known; the root is the last of
-- them; what is said of all of them is so.
pub record IsCompiled (t : Shape Leaf) (known : Known) (nodes : List FlatNode) (root : ℕ) (needs : Bool) (named : ℕ) :
    Type 0 where
  pub multipliers : AllLeaves HasMultiplier t
  pub sound : IsSound (reverse nodes)
  pub rooted : root < length nodes
  pub serves : Serves (reverse nodes) root (pruned known t)
  pub tops : Tops (reverse nodes) root (pruned known t)
  pub keeps : Keeps [] (reverse nodes) (pruned known t)
  pub few : length nodes ≤ size t
  pub count : length nodes ≡ (takes (pruned known t)).own
  pub needs_is : needs ≡ list_any sees_error nodes
  pub named_is : named ≡ most_channels nodes

-- up to the last channel, each with one earlier channel more, the same is left of the tree once known decisions are taken
abbrev pub IsLeftAlike : Shape Leaf → ℕ → ℕ → ℕ → ℕ → Type 0
IsLeftAlike t channel stream earlier last =
    (k : ℕ) → channel + k ≤ last → pruned (known_at (channel + k) stream (earlier + k)) t ≡ pruned (known_at channel stream earlier) t

-- the next channel after the last one does not take all known decisions as that one does, unless its number is read as negative
abbrev pub EndsAlike : Shape Leaf → ℕ → ℕ → ℕ → ℕ → Type 0
EndsAlike t channel stream earlier last =
    (k : ℕ) → channel + k ≡ last → last + 1 < 2 ^ 31 → taken_alike (known_side (known_at (channel + k) stream (earlier + k))) (known_side (known_at (channel + k + 1) stream (earlier + k + 1))) t ≡ false

-- the tree is compiled for this channel of this stream, with this number of earlier channels, and its table is that of the root
pub record IsCompiledFor (t : Shape Leaf) (channel stream earlier : ℕ) (c : CompiledTree) : Type 0 where
  pub tree : IsCompiled t (known_at channel stream earlier) c.nodes.items c.root c.need_self_correcting c.prev_channels_named
  pub table : TableAt c.nodes.items c.root (option_map rc_value c.table)
  pub alike : IsLeftAlike t channel stream earlier c.last_alike
  pub ends : EndsAlike t channel stream earlier c.last_alike
  pub reaches : channel < 2 ^ 31 → channel ≤ c.last_alike

-- The tree is compiled for every channel of every stream, where no earlier channel that it names is missing: it asks
-- for neither channel nor stream.
pub record ServesAnywhere (t : Shape Leaf) (c : CompiledTree) : Type 0 where
  pub no_place : tests_place t ≡ false
  pub compiled : IsCompiledFor t 0 0 (earlier_named t) c
