-- Trees of headers' own, compared with a limit on decisions (ISO/IEC 18181-1, Modular: Modular header, MA tree).
use Rattle.std.specs.Prelude.{◌≡◌, ℕ, ◌<◌, ◌≤◌, ◌⊎◌, List, Bool, true, MatchBool, MatchOption, Option, Ok}
use Rattle.jxlm_bits.specs.Decoding.{Meaning}
use Rattle.jxlm_bits.specs.ErrorKind.{ErrorKind}
use Rattle.jxlm_bits.specs.Grammar.{IsErrorAt, flag}
use Rattle.jxlm_transform.specs.Channels.{ChannelList}
use Rattle.jxlm_tree.specs.Tree.{Config, depth}
use Rattle.jxlm_nested.specs.Starts.{IsTreeErrorAt, Start, opening_at}

-- the flag at bit p, the first field of a Modular header, says that the header uses the global tree
abbrev pub UsesGlobalAt : List ℕ → ℕ → Type 0
UsesGlobalAt bytes p = (q : ℕ) × (flag.read bytes p ≡ Ok (record { value = true; position = q }))

module _ {D : Type 0} (d : Meaning D) (global : Option (Config D)) (given : ChannelList) where
  -- at bit p a Modular header for these channels, or the MA tree after it, has this error
  abbrev pub HeaderFails : List ℕ → ℕ → ErrorKind → Type 0
  HeaderFails bytes p error = (q : ℕ) × (IsErrorAt (opening_at global bytes given p) error q ⊎ IsTreeErrorAt d global bytes given p error q)

  -- at bit p stand a Modular header for these channels and an MA tree of its own, this one with its decoder
  abbrev pub HasOwnTree : List ℕ → ℕ → Config D → Type 0
  HasOwnTree bytes p config = (¬ (UsesGlobalAt bytes p)) × ((own : Start d global bytes given p) × (own.config ≡ config))

  -- a header there has no tree of its own, or header or tree has an error
  abbrev pub HasNoOwnTree : List ℕ → ℕ → Type 0
  HasNoOwnTree bytes p = UsesGlobalAt bytes p ⊎ ((error : ErrorKind) × HeaderFails bytes p error)

  -- this is the tree of its own that a header there has, if it has one
  abbrev pub OwnTreeIs : List ℕ → ℕ → Option (Config D) → Type 0
  OwnTreeIs bytes p made = MatchOption made (HasNoOwnTree bytes p) (HasOwnTree bytes p)

  module _ (deepest : ℕ) (bytes : List ℕ) (p : ℕ) where
    -- at bit p stand a Modular header for these channels and an MA tree of its own, which is deeper than this
    abbrev pub IsDeepAt : Type 0
    IsDeepAt = (¬ (UsesGlobalAt bytes p)) × ((own : Start d global bytes given p) × (deepest < depth own.config.tree))

    -- a header there has no tree of its own, or one that is at most this deep, or header or tree has an error
    abbrev pub IsShallowAt : Type 0
    IsShallowAt =
        UsesGlobalAt bytes p ⊎ (((own : Start d global bytes given p) × (depth own.config.tree ≤ deepest)) ⊎ ((error : ErrorKind) × HeaderFails bytes p error))

    -- what comparing says
    abbrev pub DepthSays : Bool → Type 0
    DepthSays b = MatchBool b IsDeepAt IsShallowAt
