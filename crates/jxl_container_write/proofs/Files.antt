-- The file as it is written, box by box.
use Rattle.std.proofs.Common.{◌≡◌, ℕ, ◌<◌, ◌^◌, List, [], ◌∷◌, ◌++◌, length, Option, Some, None, refl, sym, ap, ◌∙◌, arith, append_assoc}
use Rattle.std.specs.Prelude.{IfSome}
use Rattle.std.proofs.lemmas.List.{append-nil}
use Rattle.std.proofs.lemmas.Grind.{flat_map-append}
use Rattle.jxl_container_write.specs.declared.container.Level.{Level}
use Rattle.jxl_container_write.specs.declared.container.Level.TheVariants.{Five, Ten}
use Rattle.jxl_container_write.specs.Containers.{BoxContents, boxes_of, exif_box, file_type, level_box, whole_box, xmp_box}
use Rattle.jxl_container_write.specs.Inner.Spelled.{box_bytes, all_bytes, signature}
use Rattle.jxl_container_write.proofs.Follows.{ArePlain, Written, file_written}

-- contents of a size that a box can have
abbrev pub IsShort : List ℕ → Type 0
IsShort contents = length contents < 2 ^ 63

level_plain : (level : Level) → ArePlain (level_box level)
level_plain Five = tt
level_plain Ten = (record { fits = record { kind = omega arith; size = omega arith }; plain = record { no_type = refl; no_whole = refl; no_part = refl; no_brob = refl; no_jbrd = refl } }, tt)

exif_plain : (exif : Option (List ℕ)) → IfSome exif IsShort → ArePlain (exif_box exif)
exif_plain None s = tt
exif_plain (Some tiff) s =
    (record { fits = record { kind = omega arith; size = omega (arith, s) }; plain = record { no_type = refl; no_whole = refl; no_part = refl; no_brob = refl; no_jbrd = refl } }, tt)

xmp_plain : (xmp : Option (List ℕ)) → IfSome xmp IsShort → ArePlain (xmp_box xmp)
xmp_plain None s = tt
xmp_plain (Some packet) s =
    (record { fits = record { kind = omega arith; size = omega (arith, s) }; plain = record { no_type = refl; no_whole = refl; no_part = refl; no_brob = refl; no_jbrd = refl } }, tt)

both_plain : (xs ys : List BoxContents) → ArePlain xs → ArePlain ys → ArePlain (xs ++ ys)
both_plain [] ys a b = b
both_plain (x ∷ xs) ys a b = (a.0, both_plain xs ys a.1 b)

-- boxes after others, as they are written
more_bytes : (v w : List ℕ) (xs ys : List BoxContents) (base : List ℕ) → v ≡ base ++ all_bytes xs → w ≡ v ++ all_bytes ys → w ≡ base ++ all_bytes (xs ++ ys)
more_bytes v w xs ys base e f = f ∙ ap (λ u. u ++ all_bytes ys) e ∙ append_assoc base (all_bytes xs) (all_bytes ys) ∙ ap (λ u. base ++ u) (sym (flat_map-append box_bytes xs ys))

pub container_written : (codestream : List ℕ) (level : Level) (exif xmp : Option (List ℕ)) (a b c d e f : List ℕ) → IsShort codestream → IfSome exif IsShort → IfSome xmp IsShort →
    a ≡ signature → b ≡ a ++ box_bytes file_type → c ≡ b ++ all_bytes (level_box level) → d ≡ c ++ all_bytes (exif_box exif) → e ≡ d ++ all_bytes (xmp_box xmp) → f ≡ e ++ box_bytes (whole_box codestream) →
    Written f (boxes_of codestream level exif xmp) codestream
container_written codestream level exif xmp a b c d e f short short_exif short_xmp ea eb ec ed ee ef =
    let base : List ℕ = signature ++ box_bytes file_type in
    let others : List BoxContents = level_box level ++ exif_box exif ++ xmp_box xmp in
    let at_b : b ≡ base ++ all_bytes [] = eb ∙ ap (λ v. v ++ box_bytes file_type) ea in
    let at_c : c ≡ base ++ all_bytes (level_box level) = more_bytes b c [] (level_box level) base at_b ec in
    let at_d = more_bytes c d (level_box level) (exif_box exif) base at_c ed in
    let at_e : e ≡ base ++ all_bytes others = more_bytes d e (level_box level ++ exif_box exif) (xmp_box xmp) base at_d ee in
    let last : box_bytes (whole_box codestream) ≡ all_bytes (whole_box codestream ∷ []) = sym (append-nil (box_bytes (whole_box codestream))) in
    let at_f : f ≡ base ++ all_bytes (others ++ whole_box codestream ∷ []) = more_bytes e f others (whole_box codestream ∷ []) base at_e (ef ∙ ap (λ v. e ++ v) last) in
    let plain : ArePlain others = both_plain (level_box level ++ exif_box exif) (xmp_box xmp) (both_plain (level_box level) (exif_box exif) (level_plain level) (exif_plain exif short_exif)) (xmp_plain xmp short_xmp) in
    file_written codestream (record { kind = omega arith; size = omega (arith, short) }) others plain f at_f
