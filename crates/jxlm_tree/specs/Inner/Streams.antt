-- Compiled nodes that all streams share.
use Rattle.std.specs.Prelude.{◌≡◌, ◌==◌, ◌||◌, Bool, false}
use Rattle.jxlm_ma_tree.specs.Tree.{Shape, leaf, decision}
use Rattle.jxlm_ma_tree.specs.declared.leaf.Leaf.{Leaf}
use Rattle.jxlm_tree.specs.Inner.Compiled.{IsCompiledFor}
use Rattle.jxlm_tree.specs.declared.streams.StreamNodes.{StreamNodes}

-- a decision asks for the stream
abbrev pub asks_stream : Shape Leaf → Bool
asks_stream (leaf l) = false
asks_stream (decision p v left right) = (p == 1) || (asks_stream left || asks_stream right)

-- the nodes serve two runs of channels of every stream, from channel 0 on and from `start` on, with all earlier channels
pub record ServesStreams (t : Shape Leaf) (s : StreamNodes) : Type 0 where
  pub no_stream : asks_stream t ≡ false
  pub first : IsCompiledFor t 0 0 0 s.first.value
  pub second : IsCompiledFor t s.start 0 s.start s.second.value
