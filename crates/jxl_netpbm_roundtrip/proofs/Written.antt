-- What was written is read.
use Rattle.std.proofs.Common.{◌≡◌, ◌≢◌, ℕ, ℤ, List, [], ◌∷◌, ◌++◌, length, take, Bool, true, false, Some, refl, sym, subst, arith, take_all}
use Rattle.std.specs.Prelude.{slice_get}
use Rattle.jxlm_base.specs.Grid.{Grid}
use Rattle.std.proofs.lemmas.Bool.{false≢true}
use Rattle.jxl_picture.specs.Floats.{single}
use Rattle.jxl_netpbm.specs.Formats.{left_out, pam_head, pfm_head, pnm_head, suits, text_of}
use Rattle.jxl_netpbm.specs.Rasters.{Layer, float_rows, maximum, raster_text}
use Rattle.jxl_netpbm.specs.declared.format.Format.{Format}
use Rattle.jxl_netpbm.specs.declared.format.Format.TheVariants.{Pgm, Ppm, Pam, Pfm, Text}
use Rattle.jxl_netpbm_read.specs.Files.{IsNetpbmOf, image_by}
use Rattle.jxl_netpbm_read.specs.Parts.{IsStorage, channel_count, is_side}
use Rattle.jxl_netpbm_read.specs.declared.header.Header.{Header}
use Rattle.jxl_netpbm_read.specs.declared.header.Storage.{Storage}
use Rattle.jxl_netpbm_read.specs.declared.header.Storage.TheVariants.{Numbers, Floats}
use Rattle.jxl_netpbm_roundtrip.specs.RoundTrip.{IsChannel, WrittenAreRead}
use Rattle.jxl_netpbm_roundtrip.proofs.NumberSamples.{numbers_header}
use Rattle.jxl_netpbm_roundtrip.proofs.PamFiles.{all_layers, pam_file}
use Rattle.jxl_netpbm_roundtrip.proofs.PfmFiles.{floats_header, pfm_file}
use Rattle.jxl_netpbm_roundtrip.proofs.PnmFiles.{pnm_file}
use Rattle.jxl_netpbm_roundtrip.proofs.RasterReading.{layers_by}

abbrev header_with : ℕ → ℕ → Bool → Bool → Storage → ℕ → Header
header_with w h is_grey has_alpha s start = record { width = w; height = h; grey = is_grey; alpha = has_alpha; storage = s; start = start }

-- in a format other than text
abbrev IsRead : Format → ℕ → ℕ → Bool → Bool → Storage → ℕ → List (Grid ℤ) → Type 0
IsRead format w h is_grey has_alpha s start gs =
    is_side w ≡ true → is_side h ≡ true → IsStorage has_alpha s → suits format (image_by (header_with w h is_grey has_alpha s start)) ≡ true →
    left_out format (image_by (header_with w h is_grey has_alpha s start)) ≡ 0 → length gs ≡ channel_count is_grey has_alpha →
    ((k : ℕ) (g : Grid ℤ) → slice_get gs k ≡ Some g → IsChannel (header_with w h is_grey has_alpha s start) g) →
    IsNetpbmOf (text_of format (image_by (header_with w h is_grey has_alpha s start)) gs) (image_by (header_with w h is_grey has_alpha s start)) gs

-- PGM and PPM, of whole numbers
grey_file : (w h bits start : ℕ) (gs : List (Grid ℤ)) → IsRead Pgm w h true false (Numbers bits) start gs
grey_file w h bits start gs wide high stored suits out count own =
    let all : take 1 gs ≡ gs = take_all 1 gs (omega (arith, count)) in
    let image = image_by (numbers_header w h true false bits start) in
    let P : List (Grid ℤ) → Type 0 = λ (xs : List (Grid ℤ)). IsNetpbmOf (pnm_head (80 ∷ 53 ∷ []) image ++ raster_text (maximum bits) (layers_by (maximum bits) xs) w h) image gs in
    subst P (sym all) (pnm_file 53 w h bits start true gs (λ bytes. refl) wide high stored.0 stored.1 count own)

colour_file : (w h bits start : ℕ) (gs : List (Grid ℤ)) → IsRead Ppm w h false false (Numbers bits) start gs
colour_file w h bits start gs wide high stored suits out count own =
    let all : take 3 gs ≡ gs = take_all 3 gs (omega (arith, count)) in
    let image = image_by (numbers_header w h false false bits start) in
    let P : List (Grid ℤ) → Type 0 = λ (xs : List (Grid ℤ)). IsNetpbmOf (pnm_head (80 ∷ 54 ∷ []) image ++ raster_text (maximum bits) (layers_by (maximum bits) xs) w h) image gs in
    subst P (sym all) (pnm_file 54 w h bits start false gs (λ bytes. refl) wide high stored.0 stored.1 count own)

pam_any : (w h bits start : ℕ) (is_grey has_alpha : Bool) (gs : List (Grid ℤ)) → is_side w ≡ true → is_side h ≡ true → IsStorage has_alpha (Numbers bits) → length gs ≡ channel_count is_grey has_alpha →
    ((k : ℕ) (g : Grid ℤ) → slice_get gs k ≡ Some g → IsChannel (numbers_header w h is_grey has_alpha bits start) g) →
    IsNetpbmOf (pam_head (image_by (numbers_header w h is_grey has_alpha bits start)) ++ raster_text (maximum bits) (layers_by (maximum bits) gs) w h) (image_by (numbers_header w h is_grey has_alpha bits start)) gs
pam_any w h bits start true true gs wide high stored count own = pam_file w h bits start true true gs wide high stored.0 stored.1 count own
pam_any w h bits start true false gs wide high stored count own = pam_file w h bits start true false gs wide high stored.0 stored.1 count own
pam_any w h bits start false true gs wide high stored count own = pam_file w h bits start false true gs wide high stored.0 stored.1 count own
pam_any w h bits start false false gs wide high stored count own = pam_file w h bits start false false gs wide high stored.0 stored.1 count own

pam_with : (w h bits start : ℕ) (is_grey has_alpha : Bool) (gs : List (Grid ℤ)) → IsRead Pam w h is_grey has_alpha (Numbers bits) start gs
pam_with w h bits start is_grey has_alpha gs wide high stored suits out count own =
    let image = image_by (numbers_header w h is_grey has_alpha bits start) in
    let P : List Layer → Type 0 = λ (ls : List Layer). IsNetpbmOf (pam_head image ++ raster_text (maximum bits) ls w h) image gs in
    subst P (sym (all_layers w h bits start is_grey has_alpha gs count)) (pam_any w h bits start is_grey has_alpha gs wide high stored count own)

grey_floats : (w h start : ℕ) (little : Bool) (gs : List (Grid ℤ)) → IsRead Pfm w h true false (Floats little) start gs
grey_floats w h start little gs wide high stored suits out count own =
    let all : take 1 gs ≡ gs = take_all 1 gs (omega (arith, count)) in
    let image = image_by (floats_header w h true little start) in
    let P : List (Grid ℤ) → Type 0 = λ (xs : List (Grid ℤ)). IsNetpbmOf (pfm_head image ++ float_rows single xs w h h) image gs in
    subst P (sym all) (pfm_file 102 w h start true little gs (λ bytes. refl) wide high count own)

colour_floats : (w h start : ℕ) (little : Bool) (gs : List (Grid ℤ)) → IsRead Pfm w h false false (Floats little) start gs
colour_floats w h start little gs wide high stored suits out count own =
    let all : take 3 gs ≡ gs = take_all 3 gs (omega (arith, count)) in
    let image = image_by (floats_header w h false little start) in
    let P : List (Grid ℤ) → Type 0 = λ (xs : List (Grid ℤ)). IsNetpbmOf (pfm_head image ++ float_rows single xs w h h) image gs in
    subst P (sym all) (pfm_file 70 w h start false little gs (λ bytes. refl) wide high count own)

by_cases : (format : Format) (w h : ℕ) (is_grey has_alpha : Bool) (s : Storage) (start : ℕ) (gs : List (Grid ℤ)) → format ≢ Text → IsRead format w h is_grey has_alpha s start gs
by_cases Text w h is_grey has_alpha s start gs other wide high stored fits out count own = absurd (other refl)
by_cases Pgm w h true false (Numbers bits) start gs other wide high stored fits out count own = grey_file w h bits start gs wide high stored fits out count own
by_cases Pgm w h is_grey true (Numbers bits) start gs other wide high stored fits out count own = absurd (omega (arith, out))
by_cases Pgm w h false false (Numbers bits) start gs other wide high stored fits out count own = absurd (false≢true fits)
by_cases Pgm w h true has_alpha (Floats little) start gs other wide high stored fits out count own = absurd (false≢true fits)
by_cases Pgm w h false has_alpha (Floats little) start gs other wide high stored fits out count own = absurd (false≢true fits)
by_cases Ppm w h true false (Numbers bits) start gs other wide high stored fits out count own = grey_file w h bits start gs wide high stored fits out count own
by_cases Ppm w h false false (Numbers bits) start gs other wide high stored fits out count own = colour_file w h bits start gs wide high stored fits out count own
by_cases Ppm w h is_grey true (Numbers bits) start gs other wide high stored fits out count own = absurd (omega (arith, out))
by_cases Ppm w h is_grey has_alpha (Floats little) start gs other wide high stored fits out count own = absurd (false≢true fits)
by_cases Pam w h is_grey has_alpha (Numbers bits) start gs other wide high stored fits out count own = pam_with w h bits start is_grey has_alpha gs wide high stored fits out count own
by_cases Pam w h is_grey has_alpha (Floats little) start gs other wide high stored fits out count own = absurd (false≢true fits)
by_cases Pfm w h is_grey has_alpha (Numbers bits) start gs other wide high stored fits out count own = absurd (false≢true fits)
by_cases Pfm w h is_grey true (Floats little) start gs other wide high stored fits out count own = absurd (false≢true (sym stored))
by_cases Pfm w h true false (Floats little) start gs other wide high stored fits out count own = grey_floats w h start little gs wide high stored fits out count own
by_cases Pfm w h false false (Floats little) start gs other wide high stored fits out count own = colour_floats w h start little gs wide high stored fits out count own

pub written_are_read : WrittenAreRead
written_are_read format h gs is other fits out count own = by_cases format h.width h.height h.grey h.alpha h.storage h.start gs other is.wide is.high is.stored fits out count own
