-- What the arguments of the program ask for.
use Rattle.std.specs.Prelude.{◌≡◌, ◌≢◌, ℕ, ◌^◌, ◌<◌, ◌≤◌, List, [], ◌+◌, ◌++◌, length, slice_index_or, codes}
use Rattle.jxlm_transform.specs.Params.{IsGroupDim}
use Rattle.jxlmod_commands.specs.Decimals.{Writes}
use Rattle.jxlmod_commands.specs.declared.arguments.Format.{Format}
use Rattle.jxlmod_commands.specs.declared.arguments.Format.TheVariants.{First, Second}
use Rattle.jxlmod_commands.specs.declared.arguments.Samples.{Samples}
use Rattle.jxlmod_commands.specs.declared.arguments.Samples.TheVariants.{I16, I32}
use Rattle.jxlmod_commands.specs.declared.arguments.Command.{Command}
use Rattle.jxlmod_commands.specs.declared.arguments.Command.TheVariants.{Decode, Sections, Encode}

-- the word for a type of samples
abbrev pub samples_word : Samples → List ℕ
samples_word I16 = codes "i16"
samples_word I32 = codes "i32"

-- the word is that of no type of samples
abbrev pub IsNoSamples : List ℕ → Type 0
IsNoSamples word = (s : Samples) → word ≢ samples_word s

-- the first word for a format: a name, and of the second format `2` after it
abbrev pub name_in : List ℕ → Format → List ℕ
name_in name First = name
name_in name Second = name ++ codes "2"

-- the word is none of those of a name
abbrev pub IsOfNoFormat : List ℕ → List ℕ → Type 0
IsOfNoFormat name word = (f : Format) → word ≢ name_in name f

-- a name, `W H N BITS i16|i32` with these numbers and this type, and this number of more words
pub record AsksPicture (words : List (List ℕ)) (name : List ℕ) (more : ℕ) (format : Format) (width height channels bit_depth : ℕ) (samples : Samples) : Type 0 where
  pub count : length words ≡ 6 + more
  pub named : slice_index_or words 0 [] ≡ name_in name format
  pub wide : Writes (slice_index_or words 1 []) width
  pub high : Writes (slice_index_or words 2 []) height
  pub many : Writes (slice_index_or words 3 []) channels
  pub deep : Writes (slice_index_or words 4 []) bit_depth
  pub typed : slice_index_or words 5 [] ≡ samples_word samples

-- `encode i16|i32`, or `encode2 i16|i32`
pub record AsksEncode (words : List (List ℕ)) (format : Format) (samples : Samples) : Type 0 where
  pub count : length words ≡ 2
  pub named : slice_index_or words 0 [] ≡ name_in (codes "encode") format
  pub typed : slice_index_or words 1 [] ≡ samples_word samples

-- an image of no channels is asked for
abbrev pub IsIdle : Command → Type 0
IsIdle (Decode format width height channels bit_depth samples) = channels ≡ 0
IsIdle (Sections format width height channels bit_depth samples group_dim) = channels ≡ 0
IsIdle (Encode format samples) = ⊥

-- the words ask for the command: after `sections` and those of a picture comes GROUP_DIM
abbrev pub Asks : List (List ℕ) → Command → Type 0
Asks words (Decode f w h n bits s) = AsksPicture words (codes "decode") 0 f w h n bits s
Asks words (Sections f w h n bits s dim) = AsksPicture words (codes "sections") 1 f w h n bits s × Writes (slice_index_or words 6 []) dim
Asks words (Encode f s) = AsksEncode words f s

-- they ask for no such command, whatever its numbers and its type
abbrev pub AskForNoDecode : List (List ℕ) → Type 0
AskForNoDecode words = (f : Format) (w h n b : ℕ) (s : Samples) → ¬ (Asks words (Decode f w h n b s))

abbrev pub AskForNoSections : List (List ℕ) → Type 0
AskForNoSections words = (f : Format) (w h n b : ℕ) (s : Samples) (g : ℕ) → ¬ (Asks words (Sections f w h n b s g))

abbrev pub AskForNoEncode : List (List ℕ) → Type 0
AskForNoEncode words = (f : Format) (s : Samples) → ¬ (Asks words (Encode f s))

-- the library takes a picture of these numbers: the sides matter where there is a channel
abbrev pub ArePossible : ℕ → ℕ → ℕ → ℕ → Type 0
ArePossible width height channels bit_depth =
    (channels ≤ 2 ^ 20) × (bit_depth ≤ 32) × (0 < channels → (width ≤ 2 ^ 30) × (height ≤ 2 ^ 30))

-- the command is one that the library takes
abbrev pub IsWithinLimits : Command → Type 0
IsWithinLimits (Decode format width height channels bit_depth samples) = ArePossible width height channels bit_depth
IsWithinLimits (Sections format width height channels bit_depth samples group_dim) =
    IsGroupDim group_dim × ArePossible width height channels bit_depth
IsWithinLimits (Encode format samples) = Unit {0}

-- the words ask for the command, and it is within the limits
abbrev pub AreFor : List (List ℕ) → Command → Type 0
AreFor words c = Asks words c × IsWithinLimits c

-- the words are for no command
abbrev pub AreWrong : List (List ℕ) → Type 0
AreWrong words = (c : Command) → ¬ (AreFor words c)
