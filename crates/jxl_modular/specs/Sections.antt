-- An image decoded from sections, each of which codes a part (ISO/IEC 18181-1, frame: sections; Modular: decoding).
use Rattle.std.specs.Prelude.{◌≡◌, ◌≢◌, ◌↔◌, ◌⊎◌, ℕ, ◌+◌, ◌*◌, ◌<◌, ◌≤◌, ℤ, List, [], ◌∷◌, ◌++◌, map, replicate, sum, Bool, false, IsTrue, Any, MatchBool, Option, Result, Ok, Err}
use Rattle.std.specs.List.{All, AllPairs, AllZip, FoldsTo}
use Rattle.std.specs.Int.{Width}
use Rattle.jxlm_bits.specs.Bits.{bytes_of, position_of}
use Rattle.jxlm_bits.specs.Decoding.{Meaning}
use Rattle.jxlm_bits.specs.ErrorKind.{BadSqueeze, NoMemory, UnlessNoMemory, kind_of}
use Rattle.jxlm_base.specs.Grid.{Grid}
use Rattle.jxlm_base.specs.Regions.{grid_of, grids_in, store_meanings}
use Rattle.jxlm_bits.specs.declared.error.Error.{Error}
use Rattle.jxlm_chain.specs.Chain as chain
use Rattle.jxlm_tree.specs.Tree.{Config, depth}
use Rattle.jxlm_transform.specs.Channels.{AreGridsOf, ChannelList}
use Rattle.jxlm_groups.specs.Cutting.{can_cut}
use Rattle.jxlm_groups.specs.Passes.{can_group}
use Rattle.jxlm_groups.specs.declared.part.SectionPart.{SectionPart}
use Rattle.jxlm_groups.specs.declared.pass.Pass.{Pass}
use Rattle.jxlm_samples.specs.Coded.{IsCodedWhole}
use Rattle.jxlm_samples.specs.Decode.{MovesWithin}
use Rattle.jxlm_samples.specs.Part.{Part, cell_count}
use Rattle.jxlm_nested.specs.Nested.{NestedTurn, NotBegun, PartTurn}
use Rattle.jxlm_nested.specs.Starts.{Start, coded_part}
use Rattle.jxl_modular.specs.Groups.{Exists, IsCut, channels_in, held_in, part_in, pieces_of}
use Rattle.jxl_modular.specs.Image.{Image, coded_list, given_list}
pub use Rattle.jxlm_nested.specs.Nested.{Turn, most}
pub use Rattle.jxl_modular.specs.declared.sections.Section.{Section}

-- These are the grids of a part that it codes whole from bit position p, and its samples may take this number of nodes.
pub record CodesWhole {D : Type 0} (d : Meaning D) (w : Width) (part : Part) (bytes : List ℕ) (decoder : D) (p : ℕ)
    (grids : List (Grid ℤ)) (nodes : ℕ) : Type 0 where
  pub end : ℕ
  pub coded : IsCodedWhole d w part bytes decoder p grids end
  pub sizes : AreGridsOf part.channels grids
  pub costs : nodes ≡ cell_count part.channels * (depth part.tree + 1)

module _ {S D : Type 0} (x : Image S D) (passes : List Pass) where
  -- The image can be cut by the passes, each section's part is there, and no two sections are of one part.
  pub record SectionsFit (sections : List Section) : Type 0 where
    pub cut : IsCut x passes
    pub exist : All (λ s. Exists x passes s.part) sections
    pub unlike : AllPairs (λ s t. s.part ≢ t.part) sections

  -- Whether sections fit. None fit an image that cannot be cut into groups, and no error comes then; a group with a side
  -- of 0 is an error.
  abbrev pub FitGives : List Section → Result Bool Error → Type 0
  FitGives sections (Ok b) =
      (IsTrue b ↔ SectionsFit sections) × (IsTrue (can_group passes x.given) → IsTrue (can_cut x.group_dim (coded_list x)))
  FitGives sections (Err e) = IsTrue (can_group passes x.given) × UnlessNoMemory (kind_of e)
      ((kind_of e ≡ BadSqueeze) × (IsTrue (can_cut x.group_dim (coded_list x)) → ⊥))

  -- each part with samples has a section
  abbrev pub IsComplete : List Section → Type 0
  IsComplete sections = (part : SectionPart) → 0 < cell_count (channels_in x passes part) →
      Any (λ s. s.part ≡ part) sections

  -- the channels of a part as a header of its own finds them: none is a meta channel
  abbrev pub list_in : SectionPart → ChannelList
  list_in part = record { channels = channels_in x passes part; nb_meta = 0 }

-- what a decoder means, how samples are kept, which is 0, the image before all sections, its passes, its global tree
module _ {S D : Type 0} (d : Meaning D) (w : Width) (to_int : S → ℤ) (zero : S) (x : Image S D) (passes : List Pass)
    (global : Option (Config D)) where
  -- A section with a header of its own: header and tree stand in its bits; behind them it codes samples of the header's
  -- channels whole, which may take this number of nodes; and these grids of its part are the only ones that the header's
  -- transforms turn into those samples.
  pub record CodesNested (s : Section) (grids : List (Grid ℤ)) (nodes : ℕ) : Type 0 where
    pub start : Start d global (bytes_of s.bits) (list_in x passes s.part) (position_of s.bits)
    pub samples : List (Grid ℤ)
    pub coded : CodesWhole d w (coded_part s.stream_index start.head start.config) (bytes_of s.bits)
        start.config.decoder start.samples_at samples nodes
    pub only : chain.IsOnlyImage w x.bit_depth start.head.coded.steps (list_in x passes s.part) grids samples

  -- either, as the section says
  abbrev pub CodesPart : Section → List (Grid ℤ) → ℕ → Type 0
  CodesPart s grids nodes = MatchBool s.nested (CodesNested s grids nodes)
      (CodesWhole d w (part_in x passes s.part s.stream_index) (bytes_of s.bits) x.config.decoder (position_of s.bits)
      grids nodes)

  -- The headline: there is one list of coded grids; each section codes its part of them whole, each part with samples
  -- has a section, the image is the only one that the transforms turn into these grids, and this number of nodes were read.
  pub record AreDecoded (sections : List Section) (image : List (Grid ℤ)) (before after : ℕ) : Type 0 where
    pub coded : List (Grid ℤ)
    pub sizes : AreGridsOf x.channels coded
    pub complete : IsComplete x passes sections
    pub costs : List ℕ
    pub parts : AllZip (λ s n. CodesPart s (map (grid_of coded) (pieces_of x passes s.part)) n) sections costs
    pub only : chain.IsOnlyImage w x.bit_depth x.steps (given_list x) image coded
    pub counted : MovesWithin before after (sum costs)

  -- a section's turn, with a header of its own or not: what decoding it returns and leaves; samples of other parts stay
  abbrev pub SectionTurn : Bool → Section → Result (Unit {0}) Error → Turn → List (Grid S) → List (Grid S) → Type 0
  SectionTurn partly s result t old new = MatchBool s.nested
      (NestedTurn d w to_int zero x.bit_depth global (bytes_of s.bits) (position_of s.bits) (list_in x passes s.part)
      (held_in x passes s.part) s.stream_index partly result t old new)
      (PartTurn d w to_int (part_in x passes s.part s.stream_index) (bytes_of s.bits) x.config.decoder (position_of s.bits)
      (held_in x passes s.part) partly result t old new)

  -- sections one after another, each decoded without an error
  abbrev pub AllTurn : Bool → List Section → List Turn → List (Grid S) → List (Grid S) → Type 0
  AllTurn partly [] [] old new = new ≡ old
  AllTurn partly (s ∷ ss) (t ∷ ts) old new =
      (between : List (Grid S)) × SectionTurn partly s (Ok tt) t old between × AllTurn partly ss ts between new
  AllTurn partly _ _ old new = ⊥

  -- Ok: each section left its samples, and the image is the only one that the transforms turn into all samples as they
  -- were then; true says that none is missing.
  pub record SectionsLeave (partly : Bool) (sections : List Section) (whole : Bool) (old : List (Grid S)) (image : List (Grid ℤ)) (before after : ℕ) : Type 0 where
    pub turns : List Turn
    pub between : List (Grid S)
    pub left : AllTurn partly sections turns old between
    pub only : chain.IsOnlyImage w x.bit_depth x.steps (given_list x) image
        (grids_in x.coded (store_meanings to_int between))
    pub says : IsTrue whole ↔ (All (λ t. t.partial ≡ false) turns × IsComplete x passes sections)
    pub counted : MovesWithin before after (sum (map most turns))

  -- Err: the first sections left their samples, the next one returns the error, or it was out of memory before that one,
  -- or after all of them; no later one was begun, and no transform is undone.
  pub record SectionsStop (partly : Bool) (sections : List Section) (e : Error) (old new : List (Grid S)) (before after : ℕ) : Type 0 where
    pub done : List Section
    pub rest : List Section
    pub in_order : sections ≡ done ++ rest
    pub turns : List Turn
    pub between : List (Grid S)
    pub left : AllTurn partly done turns old between
    pub last : Turn
    pub ends : NotBegun (kind_of e ≡ NoMemory) last between new
        ⊎ ((s : Section) × (later : List Section) × (rest ≡ s ∷ later) × SectionTurn partly s (Err e) last between new)
    pub counted : MovesWithin before after (sum (map most turns) + most last)

-- Who hears how far n sections have come (`Progress`) was called k times, each time with n: what each call leaves is said
-- by `gives`.
abbrev pub Heard : {P : Type 0} → (P → ℕ → P → Type 0) → ℕ → ℕ → P → P → Type 0
Heard gives n k old new = FoldsTo gives old (replicate k n) new

-- the same of this number of calls as there are sections, or of fewer
abbrev pub HeardSome : {P : Type 0} → (P → ℕ → P → Type 0) → ℕ → P → P → Type 0
HeardSome gives n old new = (k : ℕ) × (k ≤ n) × Heard gives n k old new
