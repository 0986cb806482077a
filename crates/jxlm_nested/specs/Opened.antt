-- What comes before an image's tree, as a program keeps it.
use Rattle.std.specs.Prelude.{◌≡◌, ◌≤◌, ◌⊎◌, ℕ, List, length, Bool, false, MatchBool, Option, Some, Result, Ok, Err}
use Rattle.std.specs.List.{All}
use Rattle.jxlm_bits.specs.Decoding.{Meaning}
use Rattle.jxlm_bits.specs.ErrorKind.{UnlessMemory, kind_of}
use Rattle.jxlm_bits.specs.Grammar.{IsErrorAt}
use Rattle.jxlm_bits.specs.declared.error.Error.{Error}
use Rattle.jxlm_chain.specs.declared.placed.PlacedChannels.{PlacedChannels}
use Rattle.jxlm_header.specs.Header.{header_of}
use Rattle.jxlm_header.specs.Opening.{Opening, depth_limit, node_limit, opening_of}
use Rattle.jxlm_header.specs.declared.header.ModularHeader.{ModularHeader}
use Rattle.jxlm_transform.specs.Channels.{Channel, ChannelList, IsNarrow}
use Rattle.jxlm_transform.specs.Lists.{list_of}
use Rattle.jxlm_transform.specs.ChannelSteps.{Step, list_after_all}
use Rattle.jxlm_transform.specs.Steps.{HasChannels, HasNarrowTables, HasWeights, steps_in}
use Rattle.jxlm_tree.specs.Tree.{Config}
use Rattle.jxlm_tree.specs.TreeReading.{IsTreeAt, IsTooDeep, listing_at}
use Rattle.jxlm_weighted.specs.SelfCorrecting.{IsHeader}

-- the steps of a header's transforms
abbrev pub steps_of_header : ModularHeader → List Step
steps_of_header h = steps_in (header_of h).transform

-- a header and its coded channels, without where these lie
abbrev pub opened_of : ModularHeader × PlacedChannels → Opening
opened_of o = opening_of (header_of o.0) (record { steps = steps_of_header o.0; list = list_of o.1.channels })

-- what finding the tree of a header returns, whose coded channels these are, and where it leaves the reader: the global
-- tree where the header uses it, or else the one that is read, or its error; it may be out of memory at any time
abbrev pub TreeOfGives : {D : Type 0} → Meaning D → Option (Config D) → List ℕ → Bool → List Channel → ℕ → Result (Config D) Error → ℕ → Type 0
TreeOfGives d global bytes uses cs p (Ok config) q =
    MatchBool uses ((global ≡ Some config) × (q ≡ p)) (IsTreeAt d bytes (node_limit cs) depth_limit p config q)
TreeOfGives d global bytes uses cs p (Err e) q = UnlessMemory (kind_of e)
    ((uses ≡ false) × (IsErrorAt (listing_at d bytes (node_limit cs) p) (kind_of e) q ⊎ IsTooDeep d bytes (node_limit cs) depth_limit p (kind_of e) q))

-- The steps of a header that was read leave these coded channels of the list: narrow ones, at most 65536. Weights and
-- palettes are those of a header, and tables are narrow.
pub record IsOpened (list : ChannelList) (o : ModularHeader × PlacedChannels) : Type 0 where
  pub leaves : list_after_all (steps_of_header o.0) list ≡ Ok (list_of o.1.channels)
  pub narrow : All IsNarrow (list_of o.1.channels).channels
  pub few : length (list_of o.1.channels).channels ≤ 65536
  pub weights : IsHeader o.0.wp_params
  pub steps : All HasChannels (steps_of_header o.0)
  pub palettes : All (HasWeights o.0.wp_params) (steps_of_header o.0)
  pub tables : HasNarrowTables (steps_of_header o.0)
