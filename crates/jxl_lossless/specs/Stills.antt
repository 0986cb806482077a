-- The samples of a frame, from its sections (ISO/IEC 18181-1, frame: sections, LF global, groups), stage by stage, and what fails
-- at each: that a palette of the weighted predictor is in the header of a group, that codes may have too many codewords, and that a
-- tree is too deep, come before what is wrong with samples.
use Rattle.std.specs.Prelude.{◌≡◌, ◌≢◌, ◌↔◌, ℕ, ◌+◌, ◌<◌, ◌≤◌, ◌⊎◌, ℤ, pos, List, ◌∷◌, ◌++◌, sum, take, Any, false, true, IsFalse, IsTrue, MatchBool, Option, None, Some, Ok}
use Rattle.std.specs.Int.{Width}
use Rattle.std.specs.List.{All, AllPairs, AllZip}
use Rattle.jxlm_bits.specs.Bits.{bytes_of, position_of}
use Rattle.jxlm_bits.specs.Decoding.{Found, Meaning}
use Rattle.jxlm_bits.specs.ErrorKind.{ErrorKind, OfDecoder, UnlessMemory, kind_of}
use Rattle.jxlm_base.specs.Grid.{Grid}
use Rattle.jxlm_transform.specs.Channels.{ChannelList}
use Rattle.jxlm_transform.specs.Transforms.{OfPalette}
use Rattle.jxlm_transform.specs.declared.transform.Palette.{Palette}
use Rattle.jxlm_predictor.specs.declared.predictor.Predictor.TheVariants.{SelfCorrecting}
use Rattle.jxlm_groups.specs.Cutting.{can_cut}
use Rattle.jxlm_groups.specs.declared.part.SectionPart.{SectionPart}
use Rattle.jxlm_groups.specs.declared.part.SectionPart.TheVariants as parts
use Rattle.jxlm_groups.specs.declared.pass.Pass.{Pass}
use Rattle.jxlm_header.specs.Header.{Header, file_header}
use Rattle.jxlm_tree.specs.Tree.{Config}
use Rattle.jxlm_bits.specs.declared.decoder.DecoderError.{DecoderError}
use Rattle.jxlm_samples.specs.Coded.{DecodingFails}
use Rattle.jxlm_samples.specs.Part.{Part, cell_count}
use Rattle.jxl_modular.specs.Groups.{channels_in, part_in}
use Rattle.jxl_modular.specs.Image.{Image}
use Rattle.jxlm_nested.specs.Starts.{Start, coded_part}
pub use Rattle.jxlm_tree_depth.specs.Depths.{HeaderFails, IsDeepAt, IsShallowAt}
use Rattle.jxl_modular.specs.Sections.{AreDecoded, CodesPart, list_in}
use Rattle.jxl_modular.specs.declared.sections.Section.{Section}
use Rattle.jxlm_section_split.specs.CutPicture.{image_by}
use Rattle.jxl_picture.specs.declared.limits.TreeLimits.{TreeLimits}
use Rattle.jxl_lossless.specs.Codewords.{HasCodewords}
use Rattle.jxl_lossless.specs.Parts.{groups_in_order}
use Rattle.jxl_lossless.specs.declared.still.error.FrameError.{FrameError}
use Rattle.jxl_lossless.specs.declared.still.error.FrameError.TheVariants as errors

-- at bit p stands a Modular header with a palette of the weighted (self-correcting) predictor, by which files mean something else
abbrev pub IsWeightedAt : List ℕ → ℕ → Type 0
IsWeightedAt bytes p = (found : Found Header) × (file_header.read bytes p ≡ Ok found)
    × (palette : Palette) × Any (λ t. t ≡ OfPalette palette) found.value.transform × (palette.d_pred ≡ SelfCorrecting)

-- decoding the samples of a part from bit p returns this error
abbrev pub PartFails : {D : Type 0} → Meaning D → Width → Part → List ℕ → D → ℕ → ErrorKind → Type 0
PartFails d w part bytes decoder p error = (e : DecoderError) × (q : ℕ) × (tried : ℕ) × DecodingFails d w part bytes decoder p e q tried × (error ≡ OfDecoder e)

module _ {D : Type 0} (d : Meaning D) (w : Width) (global : Option (Config D)) (given : ChannelList) (group_dim bit_depth : ℕ) (bytes : List ℕ) (p : ℕ)
    (passes : List Pass) (section_of : SectionPart → Option (List ℕ × ℕ)) where
  -- At bit p of the first section stand the image's header, without such palettes, and its tree, which may be the global one.
  pub record HeaderStands : Type 0 where
    pub plain : ¬ (IsWeightedAt bytes p)
    pub start : Start d global bytes given p

  -- the image of that header
  abbrev pub image_at : HeaderStands → Image ℤ D
  image_at s = image_by given s.start.head s.start.config group_dim bit_depth

  -- the part is a group with samples
  abbrev pub IsGroup : HeaderStands → SectionPart → Type 0
  IsGroup s part = (part ≢ parts.Global) × (0 < cell_count (channels_in (image_at s) passes part))

  -- the section is that of a group: it has the bytes and the stream that the frame has for its part, and a header of its own
  abbrev pub IsOfGroup : Section → Type 0
  IsOfGroup s = (section_of s.part ≡ Some (bytes_of s.bits, s.stream_index)) × (position_of s.bits ≡ 0) × (s.nested ≡ true)

  -- It can be cut, and each group with samples, and no other, has a section: these come by rising index of their streams.
  pub record HasSections : Type 0 where
    pub stands : HeaderStands
    pub cut : IsTrue (can_cut group_dim stands.start.head.coded.list)
    pub groups : List Section
    pub are : All IsOfGroup groups
    pub each : (part : SectionPart) → IsGroup stands part ↔ Any (λ s. s.part ≡ part) groups
    pub in_order : AllPairs (λ s t. s.stream_index < t.stream_index) groups

  -- None of these headers has such a palette, and the first section goes on with the global part.
  pub record CanDecode : Type 0 where
    pub has : HasSections
    pub plain : All (λ s. ¬ (IsWeightedAt (bytes_of s.bits) 0)) has.groups
    pub first : Section
    pub bytes_are : bytes_of first.bits ≡ bytes
    pub goes_on : position_of first.bits ≡ has.stands.start.samples_at
    pub is : first ≡ record { part = parts.Global; bits = first.bits; stream_index = 0; nested = false }

  -- the codes of the own tree of a group's header may have n codewords
  abbrev pub GroupHas : HeaderStands → SectionPart → ℕ → Type 0
  GroupHas s part n = (section : List ℕ) × (stream : ℕ) × (section_of part ≡ Some (section, stream))
      × HasCodewords (list_in (image_at s) passes part) section 0 n

  -- the codes of the own trees of the image's header and of the headers of these groups may have n codewords together
  abbrev pub HaveCodewords : HeaderStands → List SectionPart → ℕ → Type 0
  HaveCodewords s groups n = (own : ℕ) × HasCodewords given bytes p own
      × (ns : List ℕ) × AllZip (GroupHas s) groups ns × (n ≡ own + sum ns)

  -- those of all groups may have no more codewords than this
  abbrev pub HaveFewCodewords : ℕ → CanDecode → Type 0
  HaveFewCodewords most can = (n : ℕ) × HaveCodewords can.has.stands (groups_in_order (image_at can.has.stands) passes) n × (n ≤ most)

  -- those of the first k groups, by their numbers, may have more
  abbrev pub HaveManyCodewords : ℕ → CanDecode → Type 0
  HaveManyCodewords most can = (k : ℕ) × (n : ℕ) × HaveCodewords can.has.stands (take k (groups_in_order (image_at can.has.stands) passes)) n
      × (most < n)

  -- No header's own tree is deeper than this: neither that of the image's header, nor one of a group's.
  pub record AreShallow (deepest : ℕ) (can : CanDecode) : Type 0 where
    pub image : IsShallowAt d global given deepest bytes p
    pub groups : All (λ s. IsShallowAt d global (list_in (image_at can.has.stands) passes s.part) deepest (bytes_of s.bits) 0) can.has.groups

  -- one of these trees is deeper
  abbrev pub OneIsDeep : ℕ → CanDecode → Type 0
  OneIsDeep deepest can = IsDeepAt d global given deepest bytes p
      ⊎ Any (λ s. IsDeepAt d global (list_in (image_at can.has.stands) passes s.part) deepest (bytes_of s.bits) 0) can.has.groups

  -- These are the channels of a frame whose sections' own trees are within these limits: each section codes its part whole, with this
  -- number of nodes of trees looked at before and after, and together they code the image.
  pub record IsStill (trees : TreeLimits) (grids : List (Grid ℤ)) (before after : ℕ) : Type 0 where
    pub can : CanDecode
    pub few : HaveFewCodewords trees.codewords can
    pub shallow : AreShallow trees.depth can
    pub decoded : AreDecoded d w (λ v. v) (pos 0) (image_at can.has.stands) passes global (can.first ∷ can.has.groups) grids before after

  -- a section codes its part whole
  abbrev pub CodesItsPart : HeaderStands → Section → Type 0
  CodesItsPart h s = (grids : List (Grid ℤ)) × (nodes : ℕ) × CodesPart d w (λ v. v) (pos 0) (image_at h) passes global s grids nodes

  -- decoding a section returns this error, of a header of its own or of its samples
  abbrev pub SectionFails : HeaderStands → Section → ErrorKind → Type 0
  SectionFails h s error = MatchBool s.nested
      (HeaderFails d global (list_in (image_at h) passes s.part) (bytes_of s.bits) (position_of s.bits) error
      ⊎ ((own : Start d global (bytes_of s.bits) (list_in (image_at h) passes s.part) (position_of s.bits))
      × PartFails d w (coded_part s.stream_index own.head own.config) (bytes_of s.bits) own.config.decoder own.samples_at error))
      (PartFails d w (part_in (image_at h) passes s.part s.stream_index) (bytes_of s.bits) h.start.config.decoder (position_of s.bits) error)

  -- what each error says: up to which stage all stands, and what fails there; no two hold of one input, memory aside
  abbrev pub StillFails : TreeLimits → FrameError → Type 0
  StillFails trees (errors.Header e) = UnlessMemory (kind_of e) ((¬ (IsWeightedAt bytes p)) × HeaderFails d global given bytes p (kind_of e))
  StillFails trees errors.WeightedPalette = IsWeightedAt bytes p
  StillFails trees errors.NoGroups = (s : HeaderStands) × IsFalse (can_cut group_dim s.start.head.coded.list)
  StillFails trees errors.NoSection = (s : HeaderStands) × IsTrue (can_cut group_dim s.start.head.coded.list) × (part : SectionPart) × IsGroup s part × (section_of part ≡ None)
  StillFails trees errors.GroupWeightedPalette = (s : HasSections) × Any (λ t. IsWeightedAt (bytes_of t.bits) 0) s.groups
  StillFails trees errors.TooManyCodewords = (s : CanDecode) × HaveManyCodewords trees.codewords s
  StillFails trees errors.TooManyDecisions = (s : CanDecode) × HaveFewCodewords trees.codewords s × OneIsDeep trees.depth s
  StillFails trees (errors.Samples e) = UnlessMemory (kind_of e) ((s : CanDecode) × HaveFewCodewords trees.codewords s × AreShallow trees.depth s × (coded : List Section) × (failing : Section) × (others : List Section)
      × (s.first ∷ s.has.groups ≡ coded ++ failing ∷ others) × All (CodesItsPart s.has.stands) coded × SectionFails s.has.stands failing (kind_of e))
  StillFails trees errors.OutOfMemory = Unit {0}
