-- The section that is found for a part, and that of a part which a frame does not have.
use Rattle.std.proofs.Common.{◌≡◌, ℕ, Bool, true, false, List, if◌then◌else◌, Option, Some, None, refl, ap, ◌∙◌}
use Rattle.std.specs.Prelude.{slice_get}
use Rattle.std.specs.Borrow.{Bor}
use Rattle.std.specs.Option.{option_map}
use Rattle.std.proofs.lemmas.Option.{slice_get-map}
use Rattle.jxlm_groups.specs.declared.part.SectionPart.{SectionPart}
use Rattle.jxl_codestream.specs.Layouts.{Layout, has_part, section_number, stream_index}
use Rattle.jxl_codestream.specs.LayoutParts.{parts_of}
use Rattle.jxl_lossless.specs.Places.{lent, section_at}
use Rattle.jxl_lossless.specs.Sections.{section_of}
use Rattle.jxl_lossless.specs.declared.still.places.Places.{Places}

-- what is found with its index, if there is such a part
abbrev With : ℕ → Bool → Option (List ℕ) → Option (List ℕ × ℕ)
With n b found = if b then option_map {U = List ℕ × ℕ} (λ (bytes : List ℕ). (bytes, n)) found else None

none_is : {y : List ℕ × ℕ} → ◌≡◌ {A = Option (List ℕ × ℕ)} None (Some y) → ⊥
none_is e = cc

-- a part that has a section is one of the frame
pub has_section : (l : Layout) (sections : List (List ℕ)) (part : SectionPart) (y : List ℕ × ℕ) → section_of l sections part ≡ Some y → has_part l part ≡ true
has_section l sections part y e = by (has_part l part) refl e where
  by : (b : Bool) → has_part l part ≡ b → With (stream_index l part) b (slice_get sections (section_number l part)) ≡ Some y → has_part l part ≡ true
  by true is e = is
  by false is e = absurd (none_is e)

module _ (x : Places) (part : SectionPart) where
  abbrev l : Layout
  l = parts_of x.layout.now

  -- the section of a part that the frame has
  found : has_part l part ≡ true → section_at x part ≡ With (stream_index l part) true (option_map (λ (s : Bor (List ℕ)). s.now) (slice_get x.sections.now (section_number l part)))
  found has =
      ap (λ b. With (stream_index l part) b (slice_get (lent x.sections.now) (section_number l part))) has
      ∙ ap (With (stream_index l part) true) (slice_get-map (λ (s : Bor (List ℕ)). s.now) x.sections.now (section_number l part))

  pub is_found : (y : Bor (List ℕ)) → has_part l part ≡ true → slice_get x.sections.now (section_number l part) ≡ Some y → section_at x part ≡ Some (y.now, stream_index l part)
  is_found y has is = found has ∙ ap (λ (o : Option (Bor (List ℕ))). With (stream_index l part) true (option_map (λ (s : Bor (List ℕ)). s.now) o)) is

  -- there is none
  pub is_missing : has_part l part ≡ true → slice_get x.sections.now (section_number l part) ≡ None → section_at x part ≡ None
  is_missing has is = found has ∙ ap (λ (o : Option (Bor (List ℕ))). With (stream_index l part) true (option_map (λ (s : Bor (List ℕ)). s.now) o)) is

  pub is_none : has_part l part ≡ false → section_at x part ≡ None
  is_none has = ap (λ b. With (stream_index l part) b (slice_get (lent x.sections.now) (section_number l part))) has
