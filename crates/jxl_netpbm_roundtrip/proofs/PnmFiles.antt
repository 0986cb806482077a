-- PGM and PPM files, read as they were written.
use Rattle.std.proofs.Common.{◌≡◌, ℕ, ◌≤◌, ℤ, List, [], ◌∷◌, ◌++◌, length, Bool, true, false, Some, Err, refl, sym, ap, ◌∙◌, subst, arith, append_assoc}
use Rattle.std.specs.Prelude.{slice_get, nat_lt, ◌||◌, if◌then◌else◌, Result}
use Rattle.std.specs.Fmt.{decimal}
use Rattle.std.proofs.lemmas.Bool.Decides.{nat_tests}
use Rattle.jxlm_base.specs.Grid.{Grid}
use Rattle.jxl_netpbm.specs.Rasters.{maximum, raster_text}
use Rattle.jxl_netpbm_read.specs.Files.{IsNetpbmOf, image_by}
use Rattle.jxl_netpbm_read.specs.Headers.{header_after, header_from, magic_of, plain_from}
use Rattle.jxl_netpbm_read.specs.Parts.{colour_count, is_side}
use Rattle.jxl_netpbm_read.specs.declared.error.NetpbmError.{NetpbmError}
use Rattle.jxl_netpbm_read.specs.declared.error.NetpbmError.TheVariants.{Magic as NoMagic}
use Rattle.jxl_netpbm_read.specs.declared.header.Header.{Header}
use Rattle.jxl_netpbm_roundtrip.specs.RoundTrip.{IsChannel}
use Rattle.jxl_netpbm_roundtrip.proofs.NumberSamples.{numbers_header, numbers_held, numbers_long}
use Rattle.jxl_netpbm_roundtrip.proofs.PlainReading.{plain_read}
use Rattle.jxl_netpbm_roundtrip.proofs.RasterReading.{layers_by}
use Rattle.jxl_netpbm_roundtrip.proofs.WordReading.{At}

not_short : (n : ℕ) → 2 ≤ n → nat_lt n 2 ≡ false
not_short n long = grind (arith, nat_tests)

-- a file of three bytes or more, by its second
pub header_by_magic : (m b : ℕ) (rest : List ℕ) → header_from (80 ∷ m ∷ b ∷ rest) ≡ header_after (80 ∷ m ∷ b ∷ rest) (magic_of m)
unfolding header_from
header_by_magic m b rest =
    let bytes = 80 ∷ m ∷ b ∷ rest in
    let n = length rest in
    let long : nat_lt (length bytes) 2 ≡ false = not_short (length bytes) (omega arith) in
    let good : Result Header NetpbmError = header_after bytes (magic_of m) in
    let bad : Result Header NetpbmError = Err NoMagic in
    let P : Bool → Type 0 = λ v. (if v || false then bad else good) ≡ good in
    subst P (sym long) refl

-- the numbers of a header, one after another
pub shape : (a b c r : List ℕ) → ((((a ++ 32 ∷ []) ++ b) ++ 10 ∷ []) ++ (c ++ 10 ∷ [])) ++ r ≡ a ++ 32 ∷ (b ++ 10 ∷ (c ++ 10 ∷ r))
shape a b c r = simp append_assoc refl

pub pnm_file : (m w h bits start : ℕ) (is_grey : Bool) (gs : List (Grid ℤ)) → ((bytes : List ℕ) → header_after bytes (magic_of m) ≡ plain_from bytes is_grey 2) →
    is_side w ≡ true → is_side h ≡ true → 1 ≤ bits → bits ≤ 16 → length gs ≡ colour_count is_grey →
    ((k : ℕ) (g : Grid ℤ) → slice_get gs k ≡ Some g → IsChannel (numbers_header w h is_grey false bits start) g) →
    IsNetpbmOf (80 ∷ m ∷ 10 ∷ (((((decimal w ++ 32 ∷ []) ++ decimal h) ++ 10 ∷ []) ++ (decimal (maximum bits) ++ 10 ∷ [])) ++ raster_text (maximum bits) (layers_by (maximum bits) gs) w h))
    (image_by (numbers_header w h is_grey false bits start)) gs
pnm_file m w h bits start is_grey gs magic wide high low few count own =
    let raster = raster_text (maximum bits) (layers_by (maximum bits) gs) w h in
    let rest = ((((decimal w ++ 32 ∷ []) ++ decimal h) ++ 10 ∷ []) ++ (decimal (maximum bits) ++ 10 ∷ [])) ++ raster in
    let text = 80 ∷ m ∷ 10 ∷ rest in
    let at : At text 2 (10 ∷ (decimal w ++ 32 ∷ (decimal h ++ 10 ∷ (decimal (maximum bits) ++ 10 ∷ raster)))) =
    record { is = ap (λ (bs : List ℕ). 10 ∷ bs) (shape (decimal w) (decimal h) (decimal (maximum bits)) raster); inside = omega arith } in
    let read = plain_read text 2 is_grey w h bits raster at wide high low few in
    record {
      header = numbers_header w h is_grey false bits read.after;
      is_header = header_by_magic m 10 rest ∙ magic text ∙ read.read;
      image_is = refl;
      long = numbers_long text w h bits read.after start is_grey false gs low few read.next_at count;
      count = count;
      samples = numbers_held text w h bits read.after start is_grey false gs low few read.next_at count own;
    }
