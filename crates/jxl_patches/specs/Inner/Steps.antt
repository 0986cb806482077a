-- What calls and loops that read patches return.
use Rattle.std.specs.Prelude.{◌≡◌, ℕ, ◌+◌, ◌*◌, ◌&&◌, nat_lt, nat_le, false, if◌then◌else◌, List, get_or, codes, Option, Some, None, is_some, Result, Ok, Err}
use Rattle.std.specs.Option.{ok_or, option_and_then, option_map_or}
use Rattle.jxlm_bits.specs.Decoding.{Found, Meaning}
use Rattle.jxlm_bits.specs.ErrorKind.{BadEnum, BadProfile, ErrorAt, ErrorKind, UnlessMemory}
use Rattle.jxlm_bits.specs.Grammar.{Grammar, IsErrorAt, ◌>>=◌, from_result}
use Rattle.jxl_image_header.specs.Fields.{number_meant}
use Rattle.jxl_image_header.specs.declared.size.Size.{Size}
use Rattle.jxlm_bits.specs.Tokens.{After, Tokens, decoder_call, token}
use Rattle.jxl_patches.specs.Dictionaries.{patches_of}
use Rattle.jxl_patches.specs.Errors.{patch_kind}
use Rattle.jxl_patches.specs.Patches.{Patches, most_rectangles}
use Rattle.jxl_patches.specs.declared.dictionary.Dictionary.{Dictionary}
use Rattle.jxl_patches.specs.declared.dictionary.Rectangle.{Rectangle}
use Rattle.jxl_patches.specs.declared.error.PatchError.{PatchError}

-- What was read, seen by view, and the decoder's state s and the reader's position q after it, are what reading gives, unless it
-- or the decoder is out of memory.
abbrev pub TokenRead : {S X Y : Type 0} → (X → Y) → Result X PatchError → S → ℕ → Result (Found (After S Y)) ErrorAt → Type 0
TokenRead view (Ok v) s q reading = reading ≡ Ok (record { value = record { value = view v; state = s }; position = q })
TokenRead view (Err e) s q reading = UnlessMemory (patch_kind e) (IsErrorAt reading (patch_kind e) q)

-- So are the patches in memory that were read so far, whatever the call returned besides.
abbrev pub StepRead : {S X : Type 0} → Result X PatchError → S → Dictionary → ℕ → Result (Found (After S Patches)) ErrorAt → Type 0
StepRead (Ok x) s told q reading = reading ≡ Ok (record { value = record { value = patches_of told; state = s }; position = q })
StepRead (Err e) s told q reading = UnlessMemory (patch_kind e) (IsErrorAt reading (patch_kind e) q)

-- a check returned this value, or this error
abbrev pub Checks : {X : Type 0} → Result X PatchError → Result X ErrorKind → Type 0
Checks (Ok x) check = check ≡ Ok x
Checks (Err e) check = check ≡ Err (patch_kind e)

-- the decoder of this number of contexts, at the begin of its tokens
abbrev pub decoder : {S : Type 0} → Meaning S → ℕ → Grammar S
decoder d contexts = decoder_call (λ bytes p. d.parse bytes p contexts) >>= λ s. decoder_call (λ bytes p. d.begin s bytes p)

-- the slot of a rectangle
abbrev pub slot : {S : Type 0} → Meaning S → List (Option Size) → Tokens S ℕ
slot d slots = token d 1 (λ v. number_meant (codes "slot of a patch") (is_some (get_or slots v None)) v)

-- the rectangle at this corner of the frame that a slot holds, whose sides are coded less one
abbrev pub rectangle_within : List (Option Size) → ℕ → ℕ → ℕ → ℕ → ℕ → Result Rectangle ErrorKind
rectangle_within slots slot x0 y0 w h = if option_map_or (λ f. nat_lt (x0 + w) f.width && nat_lt (y0 + h) f.height) (get_or slots slot None) false
    then Ok (record { slot = slot; x0 = x0; y0 = y0; width = w + 1; height = h + 1 }) else Err (BadEnum (codes "rectangle of a patch") slot)

-- how many rectangles are named
abbrev pub rectangle_count : {S : Type 0} → Meaning S → Size → Tokens S ℕ
rectangle_count d size = token d 0 (λ v. number_meant (codes "count of patches") (nat_le v (most_rectangles size)) v)

-- at how many places a rectangle is put, where these numbers of places and cells come before
abbrev pub count_within : Size → ℕ → ℕ → Rectangle → ℕ → ℕ → Result ℕ ErrorKind
count_within size done cells r limit v = if nat_le (done + (v + 1)) (4 * most_rectangles size)
    then (if nat_le (cells + r.width * r.height * (v + 1)) limit then Ok (v + 1) else Err (BadProfile (codes "patches of too many cells"))) else Err (BadEnum (codes "places of a patch") v)

abbrev pub place_count : {S : Type 0} → Meaning S → Size → ℕ → ℕ → Rectangle → ℕ → Tokens S ℕ
place_count d size done cells r limit = token d 7 (λ v. from_result (count_within size done cells r limit v))

-- the alpha channel of a mode, where it is coded
abbrev pub coded_alpha : {S : Type 0} → Meaning S → ℕ → Tokens S ℕ
coded_alpha d kinds = token d 8 (λ v. number_meant (codes "alpha channel of a patch") (nat_lt (v + 1) kinds) v)

-- a coordinate, from which so much lies within a side
abbrev pub inside : ℕ → ℕ → ℕ → Option ℕ → Result ℕ ErrorKind
inside extent side v place = ok_or (option_and_then (λ c. if nat_le (c + extent) side then Some c else None) place) (BadEnum (codes "place of a patch") v)
