-- What an encoder makes of the parts of an image: the tokens of their samples, and one code for all (ISO/IEC 18181-1, Modular:
-- global and group sub-bitstreams; entropy decoding).
use Rattle.std.specs.Prelude.{◌≡◌, ℕ, ℤ, List, length}
use Rattle.std.specs.Int.{Width}
use Rattle.std.specs.List.{flat_map}
use Rattle.jxlm_base.specs.Grid.{Grid}
use Rattle.jxlm_base.specs.Regions.{grids_in}
use Rattle.jxlm_bit_writer.specs.declared.token.Token.{Token}
use Rattle.jxlm_encode_tokens.specs.Tokens.{AreClusteredTokensOf}
use Rattle.jxlm_groups.specs.Pieces.{part_channels, pieces}
use Rattle.jxlm_groups.specs.declared.part.SectionPart.{SectionPart}
use Rattle.jxlm_groups.specs.declared.pass.Pass.{Pass}
use Rattle.jxlm_samples.specs.Part.{Part, cell_count, cells_of}
use Rattle.jxlm_transform.specs.Channels.{ChannelList}
use Rattle.jxlm_tree.specs.Tree.{Shape}
use Rattle.jxlm_ma_tree.specs.declared.leaf.Leaf.{Leaf}
use Rattle.jxlm_weighted.specs.WeightsHeader.{default_weights}
use Rattle.jxl_encode_sections.specs.declared.parts.PartTokens.{PartTokens}

-- coded channels, and their samples
pub record CodedSamples : Type 0 where
  pub list : ChannelList
  pub samples : List (Grid ℤ)

-- the samples of a part of them
abbrev pub part_grids : ℕ → List Pass → CodedSamples → SectionPart → List (Grid ℤ)
part_grids group_dim passes coded part = grids_in (pieces group_dim passes coded.list part) coded.samples

-- the channels of a part, by this tree
abbrev pub part_of : ℕ → List Pass → ChannelList → Shape Leaf → SectionPart → ℕ → Part
part_of group_dim passes list tree part stream =
    record { channels = part_channels group_dim passes list part; weights = default_weights; tree = tree; stream = stream }

-- These tokens are those of the samples of a part, by this tree and in this stream, and it has a sample for each cell.
pub record AreTokensIn (w : Width) (group_dim : ℕ) (passes : List Pass) (coded : CodedSamples) (tree : Shape Leaf) (part : SectionPart) (stream : ℕ) (tokens : List Token) : Type 0 where
  pub are : AreClusteredTokensOf w (part_of group_dim passes coded.list tree part stream) (cells_of (part_grids group_dim passes coded part)) tokens
  pub count : cell_count (part_channels group_dim passes coded.list part) ≡ length (cells_of (part_grids group_dim passes coded part))

-- all tokens of these parts, one part after another
abbrev pub all_tokens : List PartTokens → List Token
all_tokens parts = flat_map (λ p. p.tokens.items) parts
