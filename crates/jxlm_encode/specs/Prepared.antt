-- An image that is ready to be encoded: its transforms, its tree and the tokens of its samples.
use Rattle.std.specs.Prelude.{◌≡◌, ℕ, ◌≤◌, ℤ, List, length}
use Rattle.std.specs.Int.{Width}
use Rattle.jxlm_base.specs.Grid.{Grid}
use Rattle.jxlm_chain.specs.Chain.{Chain}
use Rattle.jxlm_transform.specs.ChannelSteps.{CodedList}
use Rattle.jxlm_transform.specs.Transforms.{Transform}
use Rattle.jxlm_tree.specs.Tree.{Shape}
use Rattle.jxlm_ma_tree.specs.declared.leaf.Leaf.{Leaf}
use Rattle.jxlm_samples.specs.Part.{cell_count, cells_of}
use Rattle.jxlm_encode_tokens.specs.Tokens.{AreTokensOf}
use Rattle.jxlm_encode_write.specs.declared.tree.EncodeNode.{EncodeNode}
use Rattle.jxlm_encode.specs.Encoded.{AreAccepted, IsTreeGiven, coded_part, given_list}

-- The transforms are accepted and make samples of the image, at whatever bit depth; the nodes list the tree; and these
-- are the tokens of the samples.
pub record ArePrepared (ts : List Transform) (nodes : List EncodeNode) (image : List (Grid ℤ)) (w : Width) (tokens : List ℕ) : Type 0 where
  pub coded : CodedList
  pub accepted : AreAccepted ts (given_list image) coded
  pub count : length coded.list.channels ≤ 65536
  pub tree : Shape Leaf
  pub given : IsTreeGiven nodes coded.list.channels tree
  pub samples : List (Grid ℤ)
  pub counted : cell_count coded.list.channels ≡ length (cells_of samples)
  pub are : AreTokensOf w (coded_part coded tree) (cells_of samples) tokens
  pub chain : (bit_depth : ℕ) → Chain w bit_depth coded.steps (given_list image) image samples
