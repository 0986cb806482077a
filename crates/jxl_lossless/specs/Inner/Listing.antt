-- Sections that were found.
use Rattle.std.specs.Prelude.{◌≡◌, ℕ, ℤ, List, [], ◌∷◌, ◌++◌, map, Any, true, false, IsFalse, IsTrue, Option, None, Some}
use Rattle.std.specs.Int.{Width}
use Rattle.jxlm_bits.specs.Bits.{bytes_of, position_of}
use Rattle.jxlm_bits.specs.Decoding.{Meaning}
use Rattle.jxlm_base.specs.Grid.{Grid}
use Rattle.jxlm_tree.specs.Tree.{Config}
use Rattle.jxl_modular.specs.Sections.{SectionsStop}
use Rattle.std.specs.List.{All}
use Rattle.jxlm_bits.specs.declared.bits.Bitstream.{Bitstream}
use Rattle.jxlm_groups.specs.Cutting.{can_cut}
use Rattle.jxlm_groups.specs.declared.part.SectionPart.{SectionPart}
use Rattle.jxlm_groups.specs.declared.part.SectionPart.TheVariants as parts
use Rattle.jxlm_groups.specs.declared.pass.Pass.{Pass}
use Rattle.jxl_modular.specs.Image.{Image, coded_list}
use Rattle.jxl_modular.specs.declared.sections.Section.{Section}
use Rattle.jxl_lossless.specs.Parts.{groups_in_order}
use Rattle.jxl_lossless.specs.Places.{own_passes, section_at}
use Rattle.jxl_lossless.specs.declared.still.error.FrameError.{FrameError}
use Rattle.jxl_lossless.specs.declared.still.error.FrameError.TheVariants as errors
use Rattle.jxl_lossless.specs.declared.still.places.Places.{Places}

-- The section is that of a group: it has the bytes and the stream that the frame has for its part, and a header of its own.
pub record IsOfGroup (x : Places) (s : Section) : Type 0 where
  pub there : section_at x s.part ≡ Some (bytes_of s.bits, s.stream_index)
  pub begins : position_of s.bits ≡ 0
  pub nested : s.nested ≡ true

-- the section is that of this part
pub record IsPlaced (x : Places) (part : SectionPart) (s : Section) : Type 0 where
  pub is : s.part ≡ part
  pub group : IsOfGroup x s

-- behind the sections before stand more now, of these parts
pub record AreAdded (x : Places) (ps : List SectionPart) (before after : List Section) : Type 0 where
  pub more : List Section
  pub in_order : after ≡ before ++ more
  pub parts_are : map (λ s. s.part) more ≡ ps
  pub groups : All (IsOfGroup x) more

-- one of these parts has no section
pub record Lacks (x : Places) (ps : List SectionPart) : Type 0 where
  pub part : SectionPart
  pub asked : Any (λ q. q ≡ part) ps
  pub none : section_at x part ≡ None

abbrev pub AddingFails : Places → List SectionPart → FrameError → Type 0
AddingFails x ps errors.NoSection = Lacks x ps
AddingFails x ps errors.OutOfMemory = Unit {0}
AddingFails x ps e = ⊥

-- the sections of an image: that of the global part goes on after the header, and the others were found
pub record AreListed {S D : Type 0} (x : Places) (image : Image S D) (first : Bitstream) (sections : List Section) : Type 0 where
  pub global : Section
  pub of_global : global ≡ record { part = parts.Global; bits = global.bits; stream_index = 0; nested = false }
  pub goes_on : global.bits ≡ first
  pub added : AreAdded x (groups_in_order image (own_passes x)) (global ∷ []) sections

abbrev pub ListingFails : {S D : Type 0} → Places → Image S D → FrameError → Type 0
ListingFails x image errors.NoGroups = IsFalse (can_cut image.group_dim (coded_list image))
ListingFails x image errors.NoSection = IsTrue (can_cut image.group_dim (coded_list image)) × Lacks x (groups_in_order image (own_passes x))
ListingFails x image errors.OutOfMemory = Unit {0}
ListingFails x image e = ⊥

-- decoding the sections of an image stops with this error
abbrev pub SamplesStop : {S D : Type 0} → Meaning D → Width → (S → ℤ) → S → Image S D → List Pass → Option (Config D) → List Section → FrameError → Type 0
SamplesStop {S} d w to_int zero x passes global sections (errors.Samples e) =
    (left : List (Grid S)) × (before : ℕ) × (after : ℕ) × SectionsStop d w to_int zero x passes global false sections e x.store left before after
SamplesStop d w to_int zero x passes global sections e = ⊥
