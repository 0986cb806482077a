-- Header and tree of an image, or of a part with its own header (ISO/IEC 18181-1, Modular: Modular header, MA tree).
use Rattle.std.specs.Prelude.{◌≡◌, ℕ, List, false, ◌⊎◌, MatchBool, Option, Some, is_some, Result, Ok}
use Rattle.jxlm_bits.specs.Decoding.{Found, Meaning}
use Rattle.jxlm_bits.specs.ErrorKind.{ErrorKind, ErrorAt}
use Rattle.jxlm_bits.specs.Grammar.{IsErrorAt}
use Rattle.jxlm_transform.specs.Channels.{ChannelList}
use Rattle.jxlm_tree.specs.Tree.{Config}
use Rattle.jxlm_tree.specs.TreeReading.{IsTreeAt, IsTooDeep, listing_at}
use Rattle.jxlm_header.specs.Opening.{Opening, opening, node_limit, depth_limit}
use Rattle.jxlm_samples.specs.Part.{Part}

-- the header at bit position p, and what it comes to for the given channels, with a global tree or without
abbrev pub opening_at : {D : Type 0} → Option (Config D) → List ℕ → ChannelList → ℕ → Result (Found Opening) ErrorAt
opening_at global bytes given p = (opening (is_some global) given).read bytes p

module _ {D : Type 0} (d : Meaning D) (global : Option (Config D)) (bytes : List ℕ) (given : ChannelList) (p : ℕ) where
  -- at p, up to q, stand a header, which comes to this head, and after it this MA tree, unless it uses the global one
  pub record IsStartAt (head : Opening) (config : Config D) (q : ℕ) : Type 0 where
    pub tree_at : ℕ
    pub header : opening_at global bytes given p ≡ Ok (record { value = head; position = tree_at })
    pub tree : MatchBool head.uses_global ((global ≡ Some config) × (q ≡ tree_at)) (IsTreeAt d bytes (node_limit head.coded.list.channels) depth_limit tree_at config q)

  -- there are such a header and tree, and this is where they end
  pub record Start : Type 0 where
    pub head : Opening
    pub config : Config D
    pub samples_at : ℕ
    pub start : IsStartAt head config samples_at

  -- at p stands a header, and reading the MA tree after it returns this error, and the reader is at q then
  pub record IsTreeErrorAt (error : ErrorKind) (q : ℕ) : Type 0 where
    pub head : Opening
    pub tree_at : ℕ
    pub header : opening_at global bytes given p ≡ Ok (record { value = head; position = tree_at })
    pub tree : (head.uses_global ≡ false) × (IsErrorAt (listing_at d bytes (node_limit head.coded.list.channels) tree_at) error q ⊎ IsTooDeep d bytes (node_limit head.coded.list.channels) depth_limit tree_at error q)

-- the part of all channels that the header's transforms leave (Modular: decoding of samples)
abbrev pub coded_part : {D : Type 0} → ℕ → Opening → Config D → Part
coded_part stream head config = record { channels = head.coded.list.channels; weights = head.weights; tree = config.tree; stream = stream }
