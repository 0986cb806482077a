-- The sections of a frame by the tokens of their samples (ISO/IEC 18181-1, frame: sections; Modular: global and group
-- sub-bitstreams).
use Rattle.std.specs.Prelude.{◌≡◌, ◌≤◌, ℕ, ◌^◌, ℤ, List, length, slice_get, Some, true}
use Rattle.std.specs.Int.{Width}
use Rattle.jxlm_base.specs.Grid.{Grid}
use Rattle.jxlm_bit_writer.specs.declared.token.Token.{Token}
use Rattle.jxlm_encode_write.specs.declared.tree.EncodeNode.{EncodeNode}
use Rattle.jxlm_header.specs.Header.{file_header}
use Rattle.jxlm_section_split.specs.CutPicture.{one_pass}
use Rattle.jxlm_transform.specs.Channels.{ChannelList}
use Rattle.jxlm_transform.specs.Transforms.{Transform}
use Rattle.jxlm_tree.specs.Tree.{Config, depth}
use Rattle.jxlm_tree.specs.TreeReading.{IsTreeAt}
use Rattle.jxl_codestream.specs.Fronts.{StandsAt}
use Rattle.jxl_codestream.specs.Layouts.{Layout, section_count_of}
use Rattle.jxl_codestream.specs.Starts.{section_start}
use Rattle.jxl_coding.specs.Parse.{decoder_at}
use Rattle.jxl_coding.specs.Symbols.{Codes}
use Rattle.jxl_coding.specs.Tokens.{Entropy, entropy}
use Rattle.jxl_encode_frame.specs.Codings.{AreSections}
use Rattle.jxl_encode_image.specs.Preparations.{shared_header}
use Rattle.jxl_encode_tree.specs.Samples.{AreCoded}
use Rattle.jxl_encode_tree.specs.Trees.{IsWrittenTree}
use Rattle.jxl_lossless.specs.Sections.{section_of}

-- From bit p up to bit q are a header with these transforms, and the samples of each part that has these tokens, for each
-- decoder of these codes.
pub record AreBehindHeader (codes : Codes) (ts : List Transform) (tokens : List Token) (bytes : List ℕ) (p q : ℕ) : Type 0 where
  pub samples_at : ℕ
  pub header : file_header.Stands bytes p (shared_header ts) samples_at
  pub coded : AreCoded codes tokens bytes samples_at q

-- From bit p up to bit q are the default factors, the tree of these nodes with these codes at its leaves, and behind a header the
-- samples of each part that has these tokens.
pub record IsFirstSection (nodes : List EncodeNode) (codes : Codes) (ts : List Transform) (tokens : List Token) (bytes : List ℕ) (p q : ℕ) : Type 0 where
  pub tree_at : ℕ
  pub start : StandsAt section_start bytes p true tree_at
  pub tree_end : ℕ
  pub tree : IsWrittenTree nodes codes bytes tree_at tree_end
  pub samples : AreBehindHeader codes ts tokens bytes tree_end q

-- the maximum of codewords that the codes of groups' own trees may have in a frame: a decoder's default limit
abbrev pub most_codewords : ℕ
most_codewords = 2 ^ 26

-- These are the sections of a frame of one pass, which is cut like this: the first begins with the default factors and the tree
-- that they share, which is within these limits, and from there on they have these channels. Groups may have trees of their own,
-- at most as deep, whose codes have no more codewords than the maximum; `encode_sections` writes none.
pub record AreFrameSections (w : Width) (given : ChannelList) (l : Layout) (group_dim node_limit deepest : ℕ) (sections : List (List ℕ)) (image : List (Grid ℤ)) : Type 0 where
  pub count : length sections ≡ section_count_of l
  pub first : List ℕ
  pub first_is : slice_get sections 0 ≡ Some first
  pub tree_at : ℕ
  pub start : StandsAt section_start first 0 true tree_at
  pub config : Config Entropy
  pub end : ℕ
  pub tree : IsTreeAt (entropy decoder_at) first node_limit 2048 tree_at config end
  pub within : depth config.tree ≤ deepest
  pub sections_are : AreSections (entropy decoder_at) w config given group_dim (record { depth = deepest; codewords = most_codewords }) one_pass first end (section_of l sections) image
