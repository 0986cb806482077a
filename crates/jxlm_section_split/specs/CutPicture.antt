-- A picture that is cut into sections, as it stands in the input (ISO/IEC 18181-1, frame: sections; Modular: groups).
use Rattle.std.specs.Prelude.{Bool, ◌≡◌, ℕ, ◌%◌, ◌^◌, ◌<◌, ℤ, pos, List, [], ◌∷◌, ◌++◌, length, map, slice_index_or, nat_lt, IsTrue, None}
use Rattle.std.specs.Int.{Width, w32, to_le_bytes}
use Rattle.std.specs.List.{All, filter, flat_map, range_with_len}
use Rattle.jxlm_bits.specs.Bits.{bytes_of, position_of}
use Rattle.jxlm_bits.specs.Decoding.{Meaning}
use Rattle.jxlm_base.specs.Grid.{Grid}
use Rattle.jxlm_transform.specs.Channels.{ChannelList}
use Rattle.jxlm_groups.specs.Counts.{group_count}
use Rattle.jxlm_groups.specs.Cutting.{can_cut}
use Rattle.jxlm_groups.specs.declared.part.Kind.TheVariants as kinds
use Rattle.jxlm_groups.specs.declared.part.SectionPart.{SectionPart}
use Rattle.jxlm_groups.specs.declared.part.SectionPart.TheVariants as parts
use Rattle.jxlm_groups.specs.declared.pass.Pass.{Pass}
use Rattle.jxlm_header.specs.Opening.{Opening}
use Rattle.jxlm_samples.specs.Part.{cell_count}
use Rattle.jxlm_tree.specs.Tree.{Config}
use Rattle.jxl_modular.specs.Fresh.{fresh, image_in}
use Rattle.jxl_modular.specs.Groups.{channels_in}
use Rattle.jxl_modular.specs.Image.{Image, coded_list}
use Rattle.jxl_modular.specs.Parsing.{IsStartAt}
use Rattle.jxl_modular.specs.Sections.{AreDecoded, SectionsLeave}
use Rattle.jxl_modular.specs.declared.sections.Section.{Section}

-- the one pass, which holds the shifts 0 to 2
abbrev pub one_pass : List Pass
one_pass = (record { number = 0; first_shift = pos 0; end_shift = pos 3 }) ∷ []

-- the image of these channels, as its opening says; it has no store, since where its samples lie is not looked at
abbrev pub image_by : {D : Type 0} → ChannelList → Opening → Config D → ℕ → ℕ → Image ℤ D
image_by given head config group_dim bit_depth = image_in [] [] given head config group_dim bit_depth

-- these parts as far as they have samples
abbrev pub with_samples : {S D : Type 0} → Image S D → List SectionPart → List SectionPart
with_samples x ps = filter (λ part. nat_lt 0 (cell_count (channels_in x one_pass part))) ps

-- the first n LF groups, and the first n groups of the pass
abbrev pub lf_groups : ℕ → List SectionPart
lf_groups n = map (λ k. parts.Lf k) (range_with_len 0 n)

abbrev pub pass_groups : ℕ → List SectionPart
pass_groups n = map (λ k. parts.Pass 0 k) (range_with_len 0 n)

-- the groups that have a section, those with samples: LF groups before the others, each by number
abbrev pub groups_in_order : {S D : Type 0} → Image S D → List SectionPart
groups_in_order x =
    with_samples x (lf_groups (group_count x.group_dim one_pass (coded_list x) kinds.Lf))
    ++ with_samples x (pass_groups (group_count x.group_dim one_pass (coded_list x) (kinds.Pass 0)))

-- how sections stand in the input: each after the number of its bytes, in four bytes, the least significant first
abbrev pub with_length : List ℕ → List ℕ
with_length bytes = to_le_bytes w32 (length bytes) ++ bytes

-- The sections stand at the start of the bytes, and these others come after them.
pub record StandBefore (bytes : List ℕ) (sections : List Section) (rest : List ℕ) : Type 0 where
  pub row : bytes ≡ flat_map (λ s. with_length (bytes_of s.bits)) sections ++ rest
  pub fit : All (λ s. length (bytes_of s.bits) < 2 ^ 32) sections

-- Section n has the stream index n; the first has no header of its own, and each other begins with one.
abbrev pub AreNumbered : List Section → Type 0
AreNumbered sections = (n : ℕ) (d : Section) → n < length sections → let s : Section = slice_index_or sections n d in
    (s.stream_index ≡ n % 2 ^ 32) × (s.nested ≡ nat_lt 0 n) × (0 < n → position_of s.bits ≡ 0)

-- These are the grids of the picture whose sections stand at the start of the bytes: the first goes on with the global
-- part after the image's header and tree, each other codes a group, and this number of nodes were looked at before and after.
pub record IsCutPicture {D : Type 0} (d : Meaning D) (w : Width) (given : ChannelList) (group_dim bit_depth : ℕ) (bytes : List ℕ) (grids : List (Grid ℤ)) : Type 0 where
  pub first : Section
  pub groups : List Section
  pub rest : List ℕ
  pub stand : StandBefore bytes (first ∷ groups) rest
  pub head : Opening
  pub config : Config D
  pub start : IsStartAt d None (bytes_of first.bits) given 0 head config (position_of first.bits)
  pub cut : IsTrue (can_cut group_dim head.coded.list)
  pub numbered : AreNumbered (first ∷ groups)
  pub global : first.part ≡ parts.Global
  pub parts : map (λ s. s.part) groups ≡ groups_in_order (image_by given head config group_dim bit_depth)
  pub before : ℕ
  pub after : ℕ
  pub decoded : AreDecoded d w (λ v. v) (pos 0) (image_by given head config group_dim bit_depth) one_pass None
      (first ∷ groups) grids before after

-- Such a picture was read, and the count of nodes that were looked at went from the one number to the other.
pub record IsCutPictureRead {D : Type 0} (d : Meaning D) (w : Width) (given : ChannelList) (group_dim bit_depth : ℕ) (bytes : List ℕ) (grids : List (Grid ℤ)) (old new : ℕ) : Type 0 where
  pub picture : IsCutPicture d w given group_dim bit_depth bytes grids
  pub from : picture.before ≡ old
  pub to : picture.after ≡ new

-- The same where samples may be missing: each section left its samples in its turn, and the grids are the only ones
-- that the transforms turn into all samples as they were then. `whole` is true where none is missing.
pub record IsCutPictureLeft {S D : Type 0} (d : Meaning D) (w : Width) (to_int : S → ℤ) (zero : S) (given : ChannelList) (group_dim bit_depth : ℕ) (bytes : List ℕ) (partly : Bool) (grids : List (Grid ℤ)) (whole : Bool) (old new : ℕ) : Type 0 where
  pub first : Section
  pub groups : List Section
  pub rest : List ℕ
  pub stand : StandBefore bytes (first ∷ groups) rest
  pub head : Opening
  pub config : Config D
  pub start : IsStartAt d None (bytes_of first.bits) given 0 head config (position_of first.bits)
  pub cut : IsTrue (can_cut group_dim head.coded.list)
  pub numbered : AreNumbered (first ∷ groups)
  pub global : first.part ≡ parts.Global
  pub parts : map (λ s. s.part) groups ≡ groups_in_order (fresh zero given head config group_dim bit_depth)
  pub left : SectionsLeave d w to_int zero (fresh zero given head config group_dim bit_depth) one_pass None partly
      (first ∷ groups) whole (fresh zero given head config group_dim bit_depth).store grids old new
