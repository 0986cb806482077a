-- A header with a palette of the weighted predictor: one is found exactly where it stands.
use Rattle.std.proofs.Common.{◌≡◌, ℕ, zero, suc, ◌<◌, Bool, true, false, ◌&&◌, ◌||◌, List, [], ◌∷◌, length, get_or, Result, Ok, Err, refl, sym, ap, ◌∙◌, arith}
use Rattle.std.specs.Prelude.{Any}
use Rattle.std.specs.List.{All, list_any}
use Rattle.std.proofs.lemmas.Bool.{or_right, true≢false}
use Rattle.std.proofs.lemmas.List.Elements.{All-head, All-tail}
use Rattle.jxlm_bits.specs.Bits.{bytes_of, position_of}
use Rattle.jxlm_bits.specs.Decoding.{Found}
use Rattle.jxlm_bits.specs.ErrorKind.{ErrorAt}
use Rattle.jxlm_transform.proofs.StepFacts.{both_of}
use Rattle.jxlm_transform.specs.Transforms.{OfPalette, OfRct, OfSqueeze, Transform}
use Rattle.jxlm_transform.specs.declared.transform.Palette.{Palette}
use Rattle.jxlm_predictor.specs.declared.predictor.Predictor.{Predictor}
use Rattle.jxlm_predictor.specs.declared.predictor.Predictor.TheVariants as predictors
use Rattle.jxlm_header.specs.Header.{Header, file_header}
use Rattle.jxl_modular.specs.declared.sections.Section.{Section}
use Rattle.jxl_lossless.specs.Stills.{IsWeightedAt}
use Rattle.jxl_lossless.specs.Inner.Weighted.{found_weighted, is_weighted, section_is_weighted, weighted, weighted_at}

no : ◌≡◌ {A = Bool} false true → ⊥
no e = cc

weighted_is : (q : Predictor) → weighted q ≡ true → q ≡ predictors.SelfCorrecting
weighted_is predictors.SelfCorrecting e = refl
weighted_is predictors.Zero e = absurd (no e)
weighted_is predictors.West e = absurd (no e)
weighted_is predictors.North e = absurd (no e)
weighted_is predictors.AvgWestAndNorth e = absurd (no e)
weighted_is predictors.Select e = absurd (no e)
weighted_is predictors.Gradient e = absurd (no e)
weighted_is predictors.NorthEast e = absurd (no e)
weighted_is predictors.NorthWest e = absurd (no e)
weighted_is predictors.WestWest e = absurd (no e)
weighted_is predictors.AvgWestAndNorthWest e = absurd (no e)
weighted_is predictors.AvgNorthAndNorthWest e = absurd (no e)
weighted_is predictors.AvgNorthAndNorthEast e = absurd (no e)
weighted_is predictors.AvgAll e = absurd (no e)

-- the palettes of that predictor among transforms
abbrev HasPalette : List Transform → Type 0
HasPalette ts = (palette : Palette) × Any (λ t. t ≡ OfPalette palette) ts × (palette.d_pred ≡ predictors.SelfCorrecting)

first_palette : (t : Transform) (ts : List Transform) → is_weighted t ≡ true → HasPalette (t ∷ ts)
first_palette (OfPalette t) ts e = (t, (0, OfPalette t, omega arith, refl, refl), weighted_is t.d_pred e)
first_palette (OfRct t) ts e = absurd (no e)
first_palette (OfSqueeze t) ts e = absurd (no e)

later_palette : (t : Transform) (ts : List Transform) → HasPalette ts → HasPalette (t ∷ ts)
later_palette t ts (palette, (k, u, lt, at, is), pred) = (palette, (suc k, u, omega (arith, lt), at, is), pred)

some_palette : (ts : List Transform) → list_any is_weighted ts ≡ true → HasPalette ts
some_palette [] e = absurd (no e)
some_palette (t ∷ ts) e = by (is_weighted t) refl e (some_palette ts) where
  by : (b : Bool) → is_weighted t ≡ b → (b || list_any is_weighted ts) ≡ true → (list_any is_weighted ts ≡ true → HasPalette ts) → HasPalette (t ∷ ts)
  by true is e later = first_palette t ts is
  by false is e later = later_palette t ts (later e)

stands_in : (r : Result (Found Header) ErrorAt) → found_weighted r ≡ true → (found : Found Header) × (r ≡ Ok found)
    × (palette : Palette) × Any (λ t. t ≡ OfPalette palette) found.value.transform × (palette.d_pred ≡ predictors.SelfCorrecting)
stands_in (Ok found) e = let (palette, some, pred) = some_palette found.value.transform e in (found, refl, palette, some, pred)
stands_in (Err e) is = absurd (no is)

-- one that is found is in the header
pub stands_there : (bytes : List ℕ) (p : ℕ) → weighted_at bytes p ≡ true → IsWeightedAt bytes p
stands_there bytes p e = stands_in (file_header.read bytes p) e

module _ {X : Type 0} (test : X → Bool) where
  any_get : (xs : List X) (k : ℕ) (d : X) → k < length xs → test (get_or xs k d) ≡ true → list_any test xs ≡ true
  any_get [] k d lt e = absurd (omega (arith, lt))
  any_get (x ∷ xs) zero d lt e = rw e refl
  any_get (x ∷ xs) (suc k) d lt e = or_right (test x) (list_any test xs) (any_get xs k d (omega (arith, lt)) e)

-- one that is in the header is found
pub found_there : (bytes : List ℕ) (p : ℕ) → IsWeightedAt bytes p → weighted_at bytes p ≡ true
found_there bytes p (found, reads, palette, (k, t, lt, at, is), pred) =
    let one : is_weighted t ≡ true = ap is_weighted is ∙ ap weighted pred in
    ap found_weighted reads ∙ any_get is_weighted found.value.transform k t lt (ap is_weighted at ∙ one)

-- none stands where none is found
pub none_there : (bytes : List ℕ) (p : ℕ) → weighted_at bytes p ≡ false → ¬ (IsWeightedAt bytes p)
none_there bytes p e stands = true≢false (sym (found_there bytes p stands) ∙ e)

-- a section begins with a header of its own
abbrev pub Begins : Section → Type 0
Begins s = (position_of s.bits ≡ 0) × (s.nested ≡ true)

found_first : (s : Section) → Begins s → IsWeightedAt (bytes_of s.bits) 0 → section_is_weighted s ≡ true
found_first s (start, nested) stands =
    ap (λ b. b && weighted_at (bytes_of s.bits) (position_of s.bits)) nested ∙ ap (weighted_at (bytes_of s.bits)) start ∙ found_there (bytes_of s.bits) 0 stands

stands_first : (s : Section) → Begins s → section_is_weighted s ≡ true → IsWeightedAt (bytes_of s.bits) 0
stands_first s (start, nested) e =
    let there = (both_of s.nested (weighted_at (bytes_of s.bits) (position_of s.bits)) e).1 in
    stands_there (bytes_of s.bits) 0 (sym (ap (weighted_at (bytes_of s.bits)) start) ∙ there)

-- where the code finds none in sections, none of them begins with one
pub all_plain : (ss : List Section) → All Begins ss → list_any section_is_weighted ss ≡ false → All (λ s. ¬ (IsWeightedAt (bytes_of s.bits) 0)) ss
all_plain ss begin e k d lt stands = true≢false (sym (any_get section_is_weighted ss k d lt (found_first (get_or ss k d) (begin k d lt) stands)) ∙ e)

-- where it finds one, one of them does
pub some_weighted : (ss : List Section) → All Begins ss → list_any section_is_weighted ss ≡ true → Any (λ s. IsWeightedAt (bytes_of s.bits) 0) ss
some_weighted [] begin e = absurd (no e)
some_weighted (s ∷ ss) begin e = by (section_is_weighted s) refl e (some_weighted ss (All-tail Begins s ss begin)) where
  by : (b : Bool) → section_is_weighted s ≡ b → (b || list_any section_is_weighted ss) ≡ true → (list_any section_is_weighted ss ≡ true → Any (λ s. IsWeightedAt (bytes_of s.bits) 0) ss) →
      Any (λ s. IsWeightedAt (bytes_of s.bits) 0) (s ∷ ss)
  by true is e later = (0, s, omega arith, refl, stands_first s (All-head Begins s ss begin) is)
  by false is e later =
      let (k, t, lt, at, stands) = later e in
      (suc k, t, omega (arith, lt), at, stands)
