-- What the code compares on its way.
use Rattle.std.specs.Prelude.{◌≡◌, ℕ, ◌<◌, ◌≤◌, ◌⊎◌, List, Bool, true, false, MatchBool, MatchOption, Option}
use Rattle.jxlm_bits.specs.Decoding.{Meaning}
use Rattle.jxlm_bits.specs.ErrorKind.{ErrorKind, NoMemory, OfDecoder}
use Rattle.jxlm_bits.specs.declared.decoder.DecoderError.TheVariants.{OutOfMemory}
use Rattle.jxlm_transform.specs.Channels.{ChannelList}
use Rattle.jxlm_tree.specs.Tree.{Config, depth}
use Rattle.jxlm_nested.specs.Starts.{Start}
use Rattle.jxlm_tree_depth.specs.Depths.{HeaderFails}

-- out of memory, of the library or of a decoder
abbrev pub is_memory : ErrorKind → Bool
is_memory NoMemory = true
is_memory (OfDecoder OutOfMemory) = true
is_memory k = false

-- what reading the tree of a header gives, whether it is the global one or the header's own
abbrev pub TreeIs : {D : Type 0} → Meaning D → Option (Config D) → ChannelList → List ℕ → ℕ → Option (Config D) → Type 0
TreeIs d global given bytes p made = MatchOption made ((error : ErrorKind) × HeaderFails d global given bytes p error)
    (λ config. (own : Start d global bytes given p) × (own.config ≡ config))

-- what comparing the tree of a header says, whether it is the global one or the header's own
abbrev pub TreeSays : {D : Type 0} → Meaning D → Option (Config D) → ChannelList → ℕ → List ℕ → ℕ → Bool → Type 0
TreeSays d global given deepest bytes p b = MatchBool b
    ((own : Start d global bytes given p) × (deepest < depth own.config.tree))
    (((own : Start d global bytes given p) × (depth own.config.tree ≤ deepest)) ⊎ ((error : ErrorKind) × HeaderFails d global given bytes p error))
