-- The Exif and XMP data of a file in boxes are those that it was written with.
use Rattle.std.proofs.Common.{◌≡◌, ℕ, suc, ◌+◌, ◌-◌, ◌<◌, ◌≤◌, List, [], ◌∷◌, ◌++◌, length, length-append, take, drop, Bool, true, false, Option, Some, None, refl, sym, ap, ◌∙◌, subst, arith, eq-eqb}
use Rattle.std.specs.Prelude.{◌==◌, ◌&&◌, ◌||◌, not, nat_le, nat_lt, map, find, cond, slice_index, slice_range, min, IfSome, MatchBool, is_some}
use Rattle.std.specs.List.{list_all}
use Rattle.std.specs.Option.{option_map}
use Rattle.std.proofs.lemmas.Bool.Decides.{nat_tests}
use Rattle.std.proofs.lemmas.List.{drop-drop, drop-take, get_or-drop, get_or-take, length-take}
use Rattle.std.proofs.Math.Seq.{drop-append_seam}
use Rattle.jxl_codestream.specs.FrontParts.{bytes_if}
use Rattle.jxl_container.specs.Boxes.{outside, word_at}
use Rattle.jxl_container.specs.Files.{Follow, fault, has_signature}
use Rattle.jxl_container.specs.Metadata.{HasExif, HasXmp, exif_start, is_exif, is_xmp}
use Rattle.jxl_container.specs.declared.boxes.FileBox.{FileBox}
use Rattle.jxl_container.specs.declared.error.FileError.{FileError}
use Rattle.jxl_container_write.specs.Containers.{BoxContents, HasBoxes, boxes_of, exif_box, file_type, level_box, whole_box, xmp_box}
use Rattle.jxl_container_write.specs.declared.container.Level.{Level}
use Rattle.jxl_container_write.specs.declared.container.Level.TheVariants.{Five, Ten}
use Rattle.jxl_encode.specs.Files.{IsWrittenFile, is_beyond_five, level_of}
use Rattle.jxl_image_header.specs.Images.{image_of}
use Rattle.jxl_picture.specs.declared.picture.Picture.{Picture}

-- where nothing is found, the second test fails
no_second : (s t : Bool) (d e : Bool × FileError) (rest : Option (Bool × FileError)) → option_map (λ r. r.1) (cond s (Some d) (cond t (Some e) rest)) ≡ None → t ≡ false
no_second true t d e rest h = let bad : ⊥ = cc in absurd bad
no_second false true d e rest h = let bad : ⊥ = cc in absurd bad
no_second false false d e rest h = refl

-- the contents of a box without a fault do not end before they begin
ends_after : (file : List ℕ) (before : List FileBox) (b : FileBox) → fault file before b ≡ None → b.body ≤ b.end
unfolding fault outside
ends_after file before b h =
    let t : nat_lt b.end b.body ≡ false = no_second (nat_lt (length file) b.body) (nat_lt b.end b.body) _ _ _ h in
    grind (arith, nat_tests)

-- a part of a list is as long as its ends say
range_long : (xs ys : List ℕ) (a e : ℕ) → slice_range xs a e ≡ ys → length ys ≤ e - a
range_long xs ys a e is =
    let n : length (slice_range xs a e) ≡ length ys = ap (λ (l : List ℕ). length l) is in
    let m : length (slice_range xs a e) ≡ min (e - a) (length (drop a xs)) = length-take (e - a) (drop a xs) in
    omega (arith, n, m)

-- what follows a head in a part of a list
after_head : (xs h rest : List ℕ) (a e : ℕ) → slice_range xs a e ≡ h ++ rest → slice_range xs (a + length h) e ≡ rest
after_head xs h rest a e is =
    let long = range_long xs (h ++ rest) a e is in
    let both = length-append h rest in
    let n : e - a ≡ length h + (e - (a + length h)) = omega (arith, long, both) in
    sym (ap (λ (l : List ℕ). take (e - (a + length h)) l) (drop-drop (length h) a xs))
    ∙ sym (drop-take (length h) (e - (a + length h)) (drop a xs))
    ∙ sym (ap (λ (m : ℕ). drop (length h) (take m (drop a xs))) n)
    ∙ ap (λ (l : List ℕ). drop (length h) l) is
    ∙ drop-append_seam h rest

-- a number in a part of a list
in_range : (xs ys : List ℕ) (a e i : ℕ) → slice_range xs a e ≡ ys → i < length ys → slice_index xs (a + i) ≡ slice_index ys i
in_range xs ys a e i is less =
    let long = range_long xs ys a e is in
    let low : i < e - a = omega (arith, long, less) in
    sym (get_or-drop a xs i 0) ∙ sym (get_or-take (e - a) (drop a xs) i 0 low) ∙ ap (λ (l : List ℕ). slice_index l i) is

-- an offset of 0 before these data
no_offset : (xs rest : List ℕ) (a e : ℕ) → slice_range xs a e ≡ 0 ∷ 0 ∷ 0 ∷ 0 ∷ rest → word_at xs a ≡ 0
unfolding word_at
no_offset xs rest a e is =
    let all : List ℕ = 0 ∷ 0 ∷ 0 ∷ 0 ∷ rest in
    let first : slice_index xs a ≡ 0 = subst (λ (n : ℕ). slice_index xs n ≡ 0) (omega arith) (in_range xs all a e 0 is (omega arith)) in
    rw (first, in_range xs all a e 1 is (omega arith), in_range xs all a e 2 is (omega arith), in_range xs all a e 3 is (omega arith)) refl

-- the type and the contents of a box
abbrev seen : List ℕ → FileBox → BoxContents
seen file b = (b.kind, slice_range file b.body b.end)

abbrev first_or : BoxContents → List BoxContents → BoxContents
first_or d [] = d
first_or d (c ∷ cs) = c

abbrev others : List BoxContents → List BoxContents
others [] = []
others (c ∷ cs) = cs

other_kind : (t : Bool) (s : Bool) → (not t && s) ≡ true → (t ≡ false) × (s ≡ true)
other_kind true s h = let bad : ⊥ = cc in absurd bad
other_kind false s h = (refl, h)

-- The first box of a type, which has these contents, is found by a test that it passes and those of other types do not, whatever
-- boxes of other types are before it, and whatever follows.
first_found : (file : List ℕ) (kind : ℕ) (passes : FileBox → Bool) (whole : List ℕ) (prior later : List BoxContents) (before : List FileBox) (p : ℕ) (places : List FileBox) →
    ((b : FileBox) → (b.kind == kind) ≡ false → passes b ≡ false) →
    ((b : FileBox) → (b.kind == kind) ≡ true → b.body ≤ b.end → slice_range file b.body b.end ≡ whole → passes b ≡ true) →
    list_all (λ c. not (c.0 == kind)) prior ≡ true → map (seen file) places ≡ prior ++ ((kind, whole) ∷ later) → Follow file before p places None →
    (b : FileBox) × (find passes places ≡ Some b) × (slice_range file b.body b.end ≡ whole)
first_found file kind passes whole [] later before p [] fails holds plain are follow = let bad : ⊥ = cc in absurd bad
first_found file kind passes whole (c ∷ cs) later before p [] fails holds plain are follow = let bad : ⊥ = cc in absurd bad
first_found file kind passes whole [] later before p (b ∷ bs) fails holds plain are follow =
    let d : BoxContents = (0, []) in
    let k : b.kind ≡ kind = ap (λ (l : List BoxContents). (first_or d l).0) are in
    let is : slice_range file b.body b.end ≡ whole = ap (λ (l : List BoxContents). (first_or d l).1) are in
    (b, rw (holds b (eq-eqb b.kind kind k) (ends_after file before b follow.1) is) refl, is)
first_found file kind passes whole (c ∷ cs) later before p (b ∷ bs) fails holds plain are follow =
    let d : BoxContents = (0, []) in
    let both = other_kind (c.0 == kind) (list_all (λ c. not (c.0 == kind)) cs) plain in
    let k : b.kind ≡ c.0 = ap (λ (l : List BoxContents). (first_or d l).0) are in
    let other : (b.kind == kind) ≡ false = subst (λ (n : ℕ). (n == kind) ≡ false) (sym k) both.0 in
    let rest = first_found file kind passes whole cs later (before ++ b ∷ []) b.end bs fails holds both.1 (ap (λ (l : List BoxContents). others l) are) follow.2 in
    (rest.0, rw (fails b other) rest.1, rest.2)

-- so Exif data after an offset of 0 are found
exif_passes : (file exif : List ℕ) (b : FileBox) → (b.kind == 0x45786966) ≡ true → b.body ≤ b.end → slice_range file b.body b.end ≡ 0 ∷ 0 ∷ 0 ∷ 0 ∷ exif → is_exif file b ≡ true
exif_passes file exif b kind le is =
    let none = no_offset file exif b.body b.end is in
    let long : suc (suc (suc (suc (length exif)))) ≤ b.end - b.body = range_long file (0 ∷ 0 ∷ 0 ∷ 0 ∷ exif) b.body b.end is in
    let fits : b.body + 4 + 0 ≤ b.end = omega (arith, long, le) in
    let within : nat_le (b.body + 4 + 0) b.end ≡ true = grind (arith, nat_tests) in
    rw (kind, none) within

has_exif : (file exif : List ℕ) (places : List FileBox) (before later : List BoxContents) → has_signature file ≡ true → Follow file [] 12 places None →
    list_all (λ c. not (c.0 == 0x45786966)) before ≡ true → map (seen file) places ≡ before ++ ((0x45786966, 0 ∷ 0 ∷ 0 ∷ 0 ∷ exif) ∷ later) → HasExif file (Some exif)
has_exif file exif places before later signed follow plain are =
    let found = first_found file 0x45786966 (is_exif file) (0 ∷ 0 ∷ 0 ∷ 0 ∷ exif) before later [] 12 places (λ b e. rw e refl) (exif_passes file exif) plain are follow in
    let b = found.0 in
    let none = no_offset file exif b.body b.end found.2 in
    let rest : slice_range file (b.body + 4) b.end ≡ exif = after_head file (0 ∷ 0 ∷ 0 ∷ 0 ∷ []) exif b.body b.end found.2 in
    let start : exif_start file b ≡ b.body + 4 = rw none (omega arith) in
    (places, rw signed (None, follow), rw (found.1, start, rest) refl)

has_xmp : (file xmp : List ℕ) (places : List FileBox) (before later : List BoxContents) → has_signature file ≡ true → Follow file [] 12 places None →
    list_all (λ c. not (c.0 == 0x786D6C20)) before ≡ true → map (seen file) places ≡ before ++ ((0x786D6C20, xmp) ∷ later) → HasXmp file (Some xmp)
has_xmp file xmp places before later signed follow plain are =
    let found = first_found file 0x786D6C20 is_xmp xmp before later [] 12 places (λ b e. e) (λ b kind le is. kind) plain are follow in
    (places, rw signed (None, follow), rw (found.1, found.2) refl)

module _ (file codestream : List ℕ) where
  -- the Exif data of a file that was written with them
  exif_kept : (level : Level) (exif : List ℕ) (xmp : Option (List ℕ)) → HasBoxes file (boxes_of codestream level (Some exif) xmp) → HasExif file (Some exif)
  exif_kept Five exif xmp has = has_exif file exif has.places (file_type ∷ []) (xmp_box xmp ++ whole_box codestream ∷ []) has.signature has.follow refl has.are
  exif_kept Ten exif xmp has = has_exif file exif has.places (file_type ∷ level_box Ten) (xmp_box xmp ++ whole_box codestream ∷ []) has.signature has.follow refl has.are

  -- and the XMP data
  xmp_kept : (level : Level) (exif : Option (List ℕ)) (xmp : List ℕ) → HasBoxes file (boxes_of codestream level exif (Some xmp)) → HasXmp file (Some xmp)
  xmp_kept Five None xmp has = has_xmp file xmp has.places (file_type ∷ []) (whole_box codestream ∷ []) has.signature has.follow refl has.are
  xmp_kept Ten None xmp has = has_xmp file xmp has.places (file_type ∷ level_box Ten) (whole_box codestream ∷ []) has.signature has.follow refl has.are
  xmp_kept Five (Some exif) xmp has = has_xmp file xmp has.places (file_type ∷ exif_box (Some exif)) (whole_box codestream ∷ []) has.signature has.follow refl has.are
  xmp_kept Ten (Some exif) xmp has = has_xmp file xmp has.places (file_type ∷ (level_box Ten ++ exif_box (Some exif))) (whole_box codestream ∷ []) has.signature has.follow refl has.are

in_boxes : (X Y : Type 0) (t : Bool) → t ≡ true → MatchBool t X Y → X
in_boxes X Y true e m = m
in_boxes X Y false e m = let bad : ⊥ = cc in absurd bad

or_exif : (wanted xmp : Bool) → (wanted || true || xmp) ≡ true
or_exif true xmp = refl
or_exif false xmp = refl

or_xmp : (wanted exif : Bool) → (wanted || exif || true) ≡ true
or_xmp true exif = refl
or_xmp false true = refl
or_xmp false false = refl

module _ (picture : Picture) (boxed : Bool) (file : List ℕ) where
  -- a file has the Exif data that it was written with
  pub exif_written : (exif xmp : Option (List ℕ)) → IsWrittenFile picture boxed exif xmp file → IfSome exif (λ bytes. HasExif file (Some bytes))
  exif_written None xmp w = tt
  exif_written (Some bytes) xmp w =
      exif_kept file w.0 (level_of (image_of picture.header) (bytes_if picture.profile)) bytes xmp
      (in_boxes _ (file ≡ w.0) _ (or_exif (boxed || is_beyond_five (image_of picture.header) (bytes_if picture.profile)) (is_some xmp)) w.2)

  -- and the XMP data
  pub xmp_written : (exif xmp : Option (List ℕ)) → IsWrittenFile picture boxed exif xmp file → IfSome xmp (λ bytes. HasXmp file (Some bytes))
  xmp_written exif None w = tt
  xmp_written exif (Some bytes) w =
      xmp_kept file w.0 (level_of (image_of picture.header) (bytes_if picture.profile)) exif bytes
      (in_boxes _ (file ≡ w.0) _ (or_xmp (boxed || is_beyond_five (image_of picture.header) (bytes_if picture.profile)) (is_some exif)) w.2)
