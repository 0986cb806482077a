-- How reading a picture that is cut into sections fails (ISO/IEC 18181-1, frame: sections).
use Rattle.std.specs.Prelude.{Bool, ◌≡◌, ◌⊎◌, ℕ, ◌<◌, ◌^◌, ℤ, List, ◌∷◌, ◌++◌, length, map, IsFalse, IsTrue, None}
use Rattle.std.specs.Int.{Width}
use Rattle.jxlm_bits.specs.Bits.{bytes_of, position_of}
use Rattle.jxlm_bits.specs.Decoding.{Meaning}
use Rattle.jxlm_bits.specs.ErrorKind.{BadSqueeze, Eof, ErrorKind, kind_of}
use Rattle.jxlm_bits.specs.Grammar.{IsErrorAt}
use Rattle.jxlm_base.specs.Grid.{Grid}
use Rattle.jxlm_bits.specs.declared.error.Error.{Error}
use Rattle.jxlm_transform.specs.Channels.{ChannelList}
use Rattle.jxlm_groups.specs.Cutting.{can_cut}
use Rattle.jxlm_groups.specs.declared.part.SectionPart.TheVariants as parts
use Rattle.jxlm_header.specs.Opening.{Opening}
use Rattle.jxlm_tree.specs.Tree.{Config}
use Rattle.jxl_modular.specs.Fresh.{fresh}
use Rattle.jxl_modular.specs.Image.{Image}
use Rattle.jxl_modular.specs.Parsing.{IsStartAt, IsTreeErrorAt, opening_at}
use Rattle.jxl_modular.specs.Sections.{SectionsStop}
use Rattle.jxl_modular.specs.declared.sections.Section.{Section}
use Rattle.jxlm_section_split.specs.CutPicture.{AreNumbered, StandBefore, groups_in_order, one_pass, with_length}

-- these bytes stand at the start of others, after their number in four bytes, and the rest comes after them
pub record IsSplit (bytes section rest : List ℕ) : Type 0 where
  pub row : bytes ≡ with_length section ++ rest
  pub fits : length section < 2 ^ 32

-- no section stands at the start of the bytes: its length or itself is truncated
abbrev pub IsTruncated : List ℕ → Type 0
IsTruncated bytes = (section rest : List ℕ) → IsSplit bytes section rest → ⊥

-- Fewer than n sections stand at the start of the bytes, and the next one is truncated.
pub record EndsEarly (n : ℕ) (bytes : List ℕ) : Type 0 where
  pub sections : List Section
  pub fewer : length sections < n
  pub left : List ℕ
  pub stand : StandBefore bytes sections left
  pub truncated : IsTruncated left

module _ {S D : Type 0} (d : Meaning D) (w : Width) (to_int : S → ℤ) (zero : S) (given : ChannelList) (group_dim bit_depth : ℕ) (bytes : List ℕ) where
  -- The first section stands at the start of the bytes, with header and tree; the other bytes come after it.
  pub record HeaderStands : Type 0 where
    pub section : List ℕ
    pub rest : List ℕ
    pub split : IsSplit bytes section rest
    pub head : Opening
    pub config : Config D
    pub samples_at : ℕ
    pub start : IsStartAt d None section given 0 head config samples_at

  -- the image of that header, before any of its samples is decoded
  abbrev pub begun : HeaderStands → Image S D
  begun h = fresh zero given h.head h.config group_dim bit_depth

  -- the first section is in the bytes, and its header or its tree has this error
  pub record HeaderFails (error : ErrorKind) : Type 0 where
    pub section : List ℕ
    pub rest : List ℕ
    pub split : IsSplit bytes section rest
    pub place : ℕ
    pub fails : IsErrorAt (opening_at {D = D} None section given 0) error place ⊎ IsTreeErrorAt d None section given 0 error place

  -- a group has a side of 0 in a coded channel
  pub record CannotBeCut : Type 0 where
    pub header : HeaderStands
    pub sideless : IsFalse (can_cut group_dim header.head.coded.list)

  -- the groups can be cut, and the section of one with samples is truncated
  pub record LaterTruncated : Type 0 where
    pub header : HeaderStands
    pub cut : IsTrue (can_cut group_dim header.head.coded.list)
    pub ends : EndsEarly (length (groups_in_order (begun header))) header.rest

  -- where samples may be missing, or may not
  module _ (partly : Bool) where
    -- All sections are in the bytes, and decoding them, one after another, returns this error.
    pub record SamplesFail (error : ErrorKind) : Type 0 where
      pub header : HeaderStands
      pub first : Section
      pub groups : List Section
      pub rest : List ℕ
      pub stand : StandBefore bytes (first ∷ groups) rest
      pub bytes_are : bytes_of first.bits ≡ header.section
      pub goes_on : position_of first.bits ≡ header.samples_at
      pub cut : IsTrue (can_cut group_dim header.head.coded.list)
      pub numbered : AreNumbered (first ∷ groups)
      pub global : first.part ≡ parts.Global
      pub parts : map (λ s. s.part) groups ≡ groups_in_order (begun header)
      pub cause : Error
      pub cause_is : error ≡ kind_of cause
      pub left : List (Grid S)
      pub before : ℕ
      pub after : ℕ
      pub stop : SectionsStop d w to_int zero (begun header) one_pass None partly (first ∷ groups) cause
          (begun header).store left before after

    -- there is no picture, by the first of these errors
    pub data CutPictureFails : ErrorKind → Type 0 where
      FirstTruncated : {e : ErrorKind} → e ≡ Eof → IsTruncated bytes → CutPictureFails e
      NoHeader : {e : ErrorKind} → HeaderFails e → CutPictureFails e
      NoGroups : {e : ErrorKind} → e ≡ BadSqueeze → CannotBeCut → CutPictureFails e
      GroupTruncated : {e : ErrorKind} → e ≡ Eof → LaterTruncated → CutPictureFails e
      NoSamples : {e : ErrorKind} → SamplesFail e → CutPictureFails e
