-- Channels as an encoder's transforms leave them.
use Rattle.std.specs.Prelude.{◌≡◌, ℕ, ◌≤◌, List, [], ◌∷◌, length, Ok}
use Rattle.std.specs.List.{All}
use Rattle.jxlm_transform.specs.Layout.{first_layout}
use Rattle.jxlm_chain.specs.Placed.{GoesOn, IsPlacedBy}
use Rattle.jxlm_chain.specs.declared.placed.PlacedChannels.{PlacedChannels}
use Rattle.jxlm_transform.specs.Channels.{Channel, ChannelList}
use Rattle.jxlm_transform.specs.Lists.{list_of}
use Rattle.jxlm_transform.specs.ChannelSteps.{Step, coded_list}
use Rattle.jxlm_transform.specs.Transforms.{Transform}
use Rattle.jxlm_encode_write.specs.Laws.{IsWritten}
use Rattle.jxlm_encode.specs.Encoded.{IsRefusedAfter, IsTransformRefused}
use Rattle.jxlm_encode.specs.declared.error.EncodeError.{EncodeError}
use Rattle.jxlm_encode.specs.declared.error.EncodeError.TheVariants.{InvalidTransform, InvalidTree, OutOfMemory}

-- the transform has a spelling, and the channels went on by it
pub record AppliesOne (t : Transform) (old new : PlacedChannels) : Type 0 where
  pub written : IsWritten t
  pub steps : List Step
  pub comes : coded_list (t ∷ []) (list_of old.channels) ≡ Ok (record { steps = steps; list = list_of new.channels })
  pub goes : GoesOn steps old new

-- the transform of number k is refused after these channels, or memory is out
abbrev pub Refuses : Transform → PlacedChannels → ℕ → EncodeError → Type 0
Refuses t old k (InvalidTransform n) = (n ≡ k) × IsRefusedAfter (list_of old.channels) t
Refuses t old k InvalidTree = ⊥
Refuses t old k OutOfMemory = Unit {0}

-- the channels before all transforms, one for each grid
abbrev pub listed : List Channel → ChannelList
listed channels = record { channels = channels; nb_meta = 0 }

-- these transforms, each of which has a spelling, took channels from their start to where they are
pub record HaveCome (ts : List Transform) (channels : List Channel) (p : PlacedChannels) : Type 0 where
  pub steps : List Step
  pub written : All IsWritten ts
  pub come : coded_list ts (listed channels) ≡ Ok (record { steps = steps; list = list_of p.channels })
  pub start : PlacedChannels
  pub begun : IsPlacedBy [] (first_layout channels) start
  pub goes : GoesOn steps start p

-- so they did, and they are accepted
pub record ArePlaced (ts : List Transform) (channels : List Channel) (p : PlacedChannels) : Type 0 where
  pub few : length ts ≤ 273
  pub come : HaveCome ts channels p
  pub count : length (list_of p.channels).channels ≤ 65536

-- a transform is refused, or memory is out
abbrev pub AreRefused : List Transform → List Channel → EncodeError → Type 0
AreRefused ts channels (InvalidTransform k) = IsTransformRefused ts (listed channels) k
AreRefused ts channels InvalidTree = ⊥
AreRefused ts channels OutOfMemory = Unit {0}
