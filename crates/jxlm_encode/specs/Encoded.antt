-- What an encoder writes, and what it refuses (a lossless encoder over the plain decoders' formats).
use Rattle.std.specs.Prelude.{◌≡◌, ◌⊎◌, ℕ, ◌+◌, ◌<◌, ◌≤◌, ℤ, List, [], ◌∷◌, length, map, take, slice_get, true, false, Some, Ok, Err}
use Rattle.std.specs.List.{All}
use Rattle.std.specs.Int.{Width}
use Rattle.jxlm_bits.specs.Decoding.{Meaning}
use Rattle.jxlm_bits.specs.ErrorKind.{ErrorKind}
use Rattle.jxlm_base.specs.Grid.{Grid}
use Rattle.jxlm_chain.specs.Chain.{Chain}
use Rattle.jxlm_header.specs.Header.{header}
use Rattle.jxlm_header.specs.Opening.{node_limit, depth_limit}
use Rattle.jxlm_tree.specs.Tree.{Shape, levels, node_count, depth, config_of}
use Rattle.jxlm_tree.specs.TreeStands.{TreeStands}
use Rattle.jxlm_ma_tree.specs.declared.leaf.Leaf.{Leaf}
use Rattle.jxlm_samples.specs.Coded.{IsCodedWhole}
use Rattle.jxlm_samples.specs.Part.{Part}
use Rattle.jxlm_plain.specs.Plain.{plain, plain2}
use Rattle.jxlm_transform.specs.Channels.{Channel, ChannelList, image_list}
use Rattle.jxlm_transform.specs.ChannelSteps.{CodedList, coded_list}
use Rattle.jxlm_transform.specs.Params.{channel_params, IsSide}
use Rattle.jxlm_transform.specs.Transforms.{Transform}
use Rattle.jxlm_transform.specs.declared.param.ChannelShift.TheVariants.{Shifts}
use Rattle.jxlm_weighted.specs.WeightsHeader.{default_weights}
use Rattle.jxlm_encode_write.specs.Laws.{IsWritten}
use Rattle.jxlm_encode_write.specs.Nodes.{node_of, has_token}
use Rattle.jxlm_encode_write.specs.declared.tree.EncodeNode.{EncodeNode}
use Rattle.jxlm_encode.specs.declared.error.EncodeError.{EncodeError}
use Rattle.jxlm_encode.specs.declared.error.EncodeError.TheVariants.{InvalidTransform, InvalidTree, OutOfMemory}

-- no side of the grid is above 2 ^ 30
abbrev pub IsSmall : {S : Type 0} → Grid S → Type 0
IsSmall g = IsSide g.width × IsSide g.height

-- the channels of an image: one for each grid, of its size, with shift 0
abbrev pub given_list : List (Grid ℤ) → ChannelList
given_list image = image_list (map (λ g. channel_params g.width g.height (Shifts 0)) image)

-- the part of all coded channels, at stream index 0
abbrev pub coded_part : CodedList → Shape Leaf → Part
coded_part coded tree = record { channels = coded.list.channels; weights = default_weights; tree = tree; stream = 0 }

-- The nodes list this tree, which is within the limits of an image with these coded channels; a property has a token.
pub record IsTreeGiven (nodes : List EncodeNode) (channels : List Channel) (t : Shape Leaf) : Type 0 where
  pub listed : levels t ≡ map node_of nodes
  pub properties : All (λ n. has_token n ≡ true) nodes
  pub limit : node_count t ≤ node_limit channels + 1
  pub within : depth t ≤ depth_limit

-- The transforms are at most 273, each has a spelling, and they come to these steps and channels.
pub record AreAccepted (ts : List Transform) (l : ChannelList) (coded : CodedList) : Type 0 where
  pub few : length ts ≤ 273
  pub written : All IsWritten ts
  pub come : coded_list ts l ≡ Ok coded

-- the transform is refused at these channels: it has no spelling, or does not suit them
abbrev pub IsRefusedAfter : ChannelList → Transform → Type 0
IsRefusedAfter l t = (IsWritten t → ⊥) ⊎ ((e : ErrorKind) × (coded_list (t ∷ []) l ≡ Err e))

-- the transform of number k is the first that is refused; the number after the last is, if they leave too many channels
pub record IsFirstRefused (ts : List Transform) (l : ChannelList) (k : ℕ) : Type 0 where
  pub before : CodedList
  pub accepted : AreAccepted (take k ts) l before
  pub refused : ((t : Transform) × (slice_get ts k ≡ Some t) × IsRefusedAfter before.list t) ⊎ ((k ≡ length ts) × (65536 < length before.list.channels))

-- a list that is too long is refused at 273, whatever is in it
abbrev pub IsTransformRefused : List Transform → ChannelList → ℕ → Type 0
IsTransformRefused ts l k = ((273 < length ts) × (k ≡ 273)) ⊎ ((length ts ≤ 273) × IsFirstRefused ts l k)

-- the transforms are accepted, and the nodes list no tree
pub record IsTreeRefused (ts : List Transform) (l : ChannelList) (nodes : List EncodeNode) : Type 0 where
  pub coded : CodedList
  pub accepted : AreAccepted ts l coded
  pub count : length coded.list.channels ≤ 65536
  pub none : (t : Shape Leaf) → IsTreeGiven nodes coded.list.channels t → ⊥

module _ (ts : List Transform) (nodes : List EncodeNode) (image : List (Grid ℤ)) where
  -- the error is the first of transforms and tree; it may be out of memory at any time
  abbrev pub EncodeFails : EncodeError → Type 0
  EncodeFails (InvalidTransform k) = IsTransformRefused ts (given_list image) k
  EncodeFails InvalidTree = IsTreeRefused ts (given_list image) nodes
  EncodeFails OutOfMemory = Unit {0}

  -- From the first bit on stand: a header with no global tree, the default weights and these transforms; this tree, and
  -- a decoder; and, coded whole at stream index 0, samples that the transforms make of this image.
  pub record IsEncodedFor {V : Type 0} (d : Meaning V) (w : Width) (bytes : List ℕ) : Type 0 where
    pub coded : CodedList
    pub accepted : AreAccepted ts (given_list image) coded
    pub count : length coded.list.channels ≤ 65536
    pub tree : Shape Leaf
    pub given : IsTreeGiven nodes coded.list.channels tree
    pub decoder : V
    pub tree_at : ℕ
    pub header_stands : header.Stands bytes 0 (record { use_global_tree = false; wp_params = default_weights; transform = ts }) tree_at
    pub samples_at : ℕ
    pub tree_stands : TreeStands d bytes (node_limit coded.list.channels) depth_limit tree_at (config_of tree decoder) samples_at
    pub samples : List (Grid ℤ)
    pub end : ℕ
    pub codes : IsCodedWhole d w (coded_part coded tree) bytes decoder samples_at samples end
    pub chain : (bit_depth : ℕ) → Chain w bit_depth coded.steps (given_list image) image samples

  -- with those of a plain decoder
  abbrev pub IsEncoded : Width → List ℕ → Type 0
  IsEncoded w bytes = IsEncodedFor plain w bytes

  -- with those of the plain decoder of the second format
  abbrev pub IsEncoded2 : Width → List ℕ → Type 0
  IsEncoded2 w bytes = IsEncodedFor plain2 w bytes
