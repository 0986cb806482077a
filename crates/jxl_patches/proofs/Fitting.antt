-- Patches that stand in a dictionary lie in their frames.
use Rattle.jxlm_bits.specs.Grammar.{from_result}
use Rattle.std.proofs.Common.{◌≡◌, ℕ, zero, suc, ◌+◌, ◌*◌, ◌<◌, ◌≤◌, Bool, true, false, List, [], ◌∷◌, ◌++◌, length, get_or, Option, Some, None, Result, Ok, Err, ◌⊎◌, inl, inr, refl, sym, ap, ◌∙◌, arith}
use Rattle.std.specs.Prelude.{nat_lt, nat_le, ◌&&◌, codes, if◌then◌else◌}
use Rattle.std.specs.Option.{ok_or, option_map_or}
use Rattle.std.proofs.lemmas.Bool.{leb-true, ltb-true, and_parts}
use Rattle.std.proofs.lemmas.List.{length-append, get_or_push, get_or_append_left}
use Rattle.std.proofs.Math.Nat.{suc-mul}
use Rattle.jxlm_bits.specs.Decoding.{Meaning}
use Rattle.jxlm_bits.specs.ErrorKind.{ErrorKind, BadEnum}
use Rattle.jxl_image_header.specs.declared.size.Size.{Size}
use Rattle.jxlm_bits.proofs.Cases.{less_or_same}
use Rattle.jxlm_bits.specs.Tokens.{After, token}
use Rattle.jxlm_bits.specs.Turns.{chain}
use Rattle.jxl_patches.specs.Patches.{Patches, source, coordinate_of, nowhere, coordinate, mode_of, one_mode, one_place, one_rectangle, dictionary}
use Rattle.jxl_patches.specs.Dictionaries.{IsWithin, AreWithin}
use Rattle.jxl_patches.specs.Inner.Steps.{inside}
use Rattle.jxl_patches.specs.declared.dictionary.PatchMode.{PatchMode}
use Rattle.jxl_patches.specs.declared.dictionary.Place.{Place}
use Rattle.jxl_patches.specs.declared.dictionary.Rectangle.{Rectangle}

-- a rectangle lies in the frame that its slot holds
record InFrame (slots : List (Option Size)) (r : Rectangle) : Type 0 where
  frame : Size
  held : get_or slots r.slot None ≡ Some frame
  columns : r.x0 + r.width ≤ frame.width
  rows : r.y0 + r.height ≤ frame.height

-- a value that stands was checked
pub was_ok : {X : Type 0} (r : Result X ErrorKind) (bytes : List ℕ) (p : ℕ) (x : X) (q : ℕ) → (from_result r).Stands bytes p x q → r ≡ Ok x
was_ok (Ok y) bytes p x q s = ap Ok (sym s.0)
was_ok (Err e) bytes p x q s = absurd s

-- the rectangle at this corner of a frame, whose sides are coded less one
abbrev within : Option Size → ℕ → ℕ → ℕ → ℕ → ℕ → Result Rectangle ErrorKind
within o slot x0 y0 w h = if option_map_or (λ f. nat_lt (x0 + w) f.width && nat_lt (y0 + h) f.height) o false
    then Ok (record { slot = slot; x0 = x0; y0 = y0; width = w + 1; height = h + 1 }) else Err (BadEnum (codes "rectangle of a patch") slot)

-- so was what a token means
pub token_ok : {S X : Type 0} (d : Meaning S) (context : ℕ) (check : ℕ → Result X ErrorKind) (s : S) (bytes : List ℕ) (p : ℕ) (y : After S X) (q : ℕ) →
    (token d context (λ v. from_result (check v)) s).Stands bytes p y q → (v : ℕ) × (check v ≡ Ok y.value)
token_ok d context check s bytes p y q st =
    let v = st.0.value in
    let rest = st.3 in
    let ok = was_ok (check v) bytes st.1 rest.0 rest.1 rest.2 in
    let same : y ≡ record { value = rest.0; state = st.0.state } = rest.3.0 in
    (v, rw same ok)

in_frame : (slots : List (Option Size)) (slot x0 y0 w h : ℕ) (o : Option Size) (r : Rectangle) → get_or slots slot None ≡ o → within o slot x0 y0 w h ≡ Ok r → InFrame slots r
in_frame slots slot x0 y0 w h (Some frame) r held ok = by_test (nat_lt (x0 + w) frame.width && nat_lt (y0 + h) frame.height) refl ok
  where
    place : Rectangle
    place = record { slot = slot; x0 = x0; y0 = y0; width = w + 1; height = h + 1 }

    by_test : (b : Bool) → (nat_lt (x0 + w) frame.width && nat_lt (y0 + h) frame.height) ≡ b →
        if◌then◌else◌ {A = Result Rectangle ErrorKind} b (Ok place) (Err (BadEnum (codes "rectangle of a patch") slot)) ≡ Ok r → InFrame slots r
    by_test true t e =
        let both = and_parts (nat_lt (x0 + w) frame.width) (nat_lt (y0 + h) frame.height) t in
        let wide = ltb-true (x0 + w) frame.width both.0 in
        let high = ltb-true (y0 + h) frame.height both.1 in
        let same : place ≡ r = cc in
        rw (← same) (record { frame = frame; held = held; columns = omega (arith, wide); rows = omega (arith, high) })
    by_test false t e = cc
in_frame slots slot x0 y0 w h None r held e = cc

inside_fits : (extent side v : ℕ) (o : Option ℕ) (c : ℕ) → inside extent side v o ≡ Ok c → c + extent ≤ side
inside_fits extent side v (Some w) c h = by_test (nat_le (w + extent) side) refl h
  where
    by_test : (b : Bool) → nat_le (w + extent) side ≡ b → ok_or (if◌then◌else◌ {A = Option ℕ} b (Some w) None) (BadEnum (codes "place of a patch") v) ≡ Ok c → c + extent ≤ side
    by_test true t e = let same : w ≡ c = cc in let le = leb-true (w + extent) side t in omega (arith, same, le)
    by_test false t e = cc
inside_fits extent side v None c h = cc

module _ {S : Type 0} (d : Meaning S) (size : Size) (kinds : ℕ) (slots : List (Option Size)) where
  source_fits : (s : S) (bytes : List ℕ) (p q : ℕ) (y : After S Rectangle) → (source d slots s).Stands bytes p y q → InFrame slots y.value
  source_fits s bytes p q y st =
      let slot = (st.0).value in
      let x0 = (st.3.0).value in
      let y0 = (st.3.3.0).value in
      let w = st.3.3.3.0 in
      let last = st.3.3.3.3 in
      let ok = token_ok d 2 (λ h. within (get_or slots slot None) slot x0 y0 w.value h) w.state bytes st.3.3.3.1 y q last in
      in_frame slots slot x0 y0 w.value ok.0 (get_or slots slot None) y.value refl ok.1

  -- What was read so far lies in its frames; this number of modes are owed.
  record Framed (owed : ℕ) (a : Patches) : Type 0 where
    modes : length a.modes + owed ≡ length a.places * kinds
    each : (n : ℕ) → n < length a.places → IsWithin size slots (get_or a.places n nowhere)

  mode_more : (owed : ℕ) (a : Patches) (s : S) (b : After S Patches) (bytes : List ℕ) (p q : ℕ) → Framed (suc owed) a → (one_mode d kinds a s).Stands bytes p b q → Framed owed b.value
  mode_more owed a s b bytes p q f st =
      let m : PatchMode = mode_of (st.0).value (st.3.0).value (st.3.3.0).value in
      rw st.3.3.3.0 (record { modes = omega (arith, f.modes, length-append a.modes (m ∷ [])); each = f.each })

  modes_more : (n : ℕ) (a : Patches) (s : S) (b : After S Patches) (bytes : List ℕ) (p q : ℕ) → Framed n a → (chain (one_mode d kinds) n a s).Stands bytes p b q → Framed 0 b.value
  unfolding chain
  modes_more zero a s b bytes p q f st = rw st.0 f
  modes_more (suc n) a s b bytes p q f st = modes_more n (st.0).value (st.0).state b bytes st.1 q (mode_more n a s st.0 bytes p st.1 f st.2) st.3

  one_more : (places : List Place) (x : Place) → ((n : ℕ) → n < length places → IsWithin size slots (get_or places n nowhere)) → IsWithin size slots x →
      (n : ℕ) → (n < length places) ⊎ (n ≡ length places) → IsWithin size slots (get_or (places ++ x ∷ []) n nowhere)
  one_more places x each here n (inl lt) = rw (get_or_append_left places (x ∷ []) nowhere n lt) (each n lt)
  one_more places x each here n (inr same) = rw (get_or_push places x nowhere n (sym same)) here

  coordinate_fits : (later : Bool) (before extent side : ℕ) (s : S) (bytes : List ℕ) (p : ℕ) (y : After S ℕ) (q : ℕ) → (coordinate d later before extent side s).Stands bytes p y q → y.value + extent ≤ side
  coordinate_fits later before extent side s bytes p y q st =
      let ok = token_ok d (if later then 6 else 4) (λ v. inside extent side v (coordinate_of later before v)) s bytes p y q st in
      inside_fits extent side ok.0 (coordinate_of later before ok.0) y.value ok.1

  place_more : (k : ℕ) (r : Rectangle) → InFrame slots r → (a : Patches) (s : S) (b : After S Patches) (bytes : List ℕ) (p q : ℕ) → Framed 0 a → (one_place d size kinds k r a s).Stands bytes p b q → Framed 0 b.value
  place_more k r i a s b bytes p q f st =
      let x = st.0 in
      let rest = st.3 in
      let y = rest.0 in
      let right = coordinate_fits _ _ r.width size.width s bytes p x st.1 st.2 in
      let down = coordinate_fits _ _ r.height size.height x.state bytes st.1 y rest.1 rest.2 in
      let place : Place = record { source = r; x = x.value; y = y.value } in
      let long : length (a.places ++ place ∷ []) ≡ suc (length a.places) = omega (arith, length-append a.places (place ∷ [])) in
      let more = suc-mul (length a.places) kinds in
      let c : Patches = record { places = a.places ++ place ∷ []; modes = a.modes } in
      let framed : Framed kinds c = record {
        modes = omega (arith, f.modes, more) ∙ ap (λ (n : ℕ). n * kinds) (sym long);
        each = λ n lt.
            one_more a.places place f.each (record { frame = i.frame; held = i.held; source_columns = i.columns; source_rows = i.rows; columns = right; rows = down }) n
            (less_or_same n (length a.places) (omega (arith, lt, long)));
      } in
      modes_more kinds c y.state b bytes rest.1 q framed rest.3

  places_more : (k : ℕ) (r : Rectangle) → InFrame slots r → (n : ℕ) (a : Patches) (s : S) (b : After S Patches) (bytes : List ℕ) (p q : ℕ) → Framed 0 a → (chain (one_place d size kinds k r) n a s).Stands bytes p b q → Framed 0 b.value
  unfolding chain
  places_more k r i zero a s b bytes p q f st = rw st.0 f
  places_more k r i (suc n) a s b bytes p q f st = places_more k r i n (st.0).value (st.0).state b bytes st.1 q (place_more k r i a s st.0 bytes p st.1 f st.2) st.3

  module _ (limit : ℕ) where
    rectangle_more : (a : Patches) (s : S) (b : After S Patches) (bytes : List ℕ) (p q : ℕ) → Framed 0 a → (one_rectangle d size kinds slots limit a s).Stands bytes p b q → Framed 0 b.value
    rectangle_more a s b bytes p q f st =
        let r = st.0 in
        let i = source_fits s bytes p st.1 r st.2 in
        let counted = st.3 in
        places_more (length a.places) r.value i (counted.0).value a (counted.0).state b bytes counted.1 q f counted.3

    rectangles_more : (n : ℕ) (a : Patches) (s : S) (b : After S Patches) (bytes : List ℕ) (p q : ℕ) → Framed 0 a → (chain (one_rectangle d size kinds slots limit) n a s).Stands bytes p b q → Framed 0 b.value
    unfolding chain
    rectangles_more zero a s b bytes p q f st = rw st.0 f
    rectangles_more (suc n) a s b bytes p q f st = rectangles_more n (st.0).value (st.0).state b bytes st.1 q (rectangle_more a s st.0 bytes p st.1 f st.2) st.3

pub patches_fit : {S : Type 0} (d : Meaning S) (size : Size) (extra : ℕ) (slots : List (Option Size)) (limit : ℕ) (bytes : List ℕ) (p : ℕ) (patches : Patches) (q : ℕ) →
    (dictionary d size extra slots limit).Stands bytes p patches q → AreWithin size extra slots patches
patches_fit {S} d size extra slots limit bytes p patches q st =
    let told = st.3 in
    let counted = told.2 in
    let none : Framed d size (1 + extra) slots 0 (record { places = []; modes = [] }) = record { modes = omega arith; each = λ n lt. absurd (omega (arith, lt)) } in
    let framed = rectangles_more d size (1 + extra) slots limit (counted.0).value _ (counted.0).state told.0 bytes counted.1 told.1 none counted.3 in
    let fits : AreWithin size extra slots (told.0).value = record { modes = omega (arith, framed.modes); each = framed.each } in
    let same : patches ≡ (told.0).value = told.3.3.0 in
    rw same fits
