-- Patches that stand in a dictionary put no more cells than its limit says.
use Rattle.std.proofs.Common.{◌≡◌, ℕ, zero, suc, ◌+◌, ◌*◌, ◌≤◌, Bool, true, false, List, [], ◌∷◌, ◌++◌, length, Option, Result, Ok, Err, refl, ap, ◌∙◌, arith}
use Rattle.std.specs.Prelude.{nat_le, codes, if◌then◌else◌}
use Rattle.std.specs.List.{sum_by}
use Rattle.std.proofs.lemmas.Bool.{leb-true}
use Rattle.std.proofs.lemmas.List.Sums.{sum_by_push}
use Rattle.std.proofs.Math.Nat.{suc-mul, mul_comm}
use Rattle.jxlm_bits.specs.Decoding.{Meaning}
use Rattle.jxlm_bits.specs.ErrorKind.{BadEnum, BadProfile, ErrorKind}
use Rattle.jxl_image_header.specs.declared.size.Size.{Size}
use Rattle.jxlm_bits.specs.Tokens.{After}
use Rattle.jxlm_bits.specs.Turns.{chain}
use Rattle.jxl_patches.proofs.Fitting.{token_ok}
use Rattle.jxl_patches.specs.Patches.{Patches, most_rectangles, one_mode, one_place, one_rectangle, dictionary}
use Rattle.jxl_patches.specs.Dictionaries.{area}
use Rattle.jxl_patches.specs.declared.dictionary.Place.{Place}
use Rattle.jxl_patches.specs.declared.dictionary.Rectangle.{Rectangle}

-- a count of places keeps the limit
abbrev count_of : Size → ℕ → ℕ → ℕ → ℕ → ℕ → Result ℕ ErrorKind
count_of size done cells area limit v = if nat_le (done + (v + 1)) (4 * most_rectangles size)
    then (if nat_le (cells + area * (v + 1)) limit then Ok (v + 1) else Err (BadProfile (codes "patches of too many cells"))) else Err (BadEnum (codes "places of a patch") v)

within_limit : (size : Size) (done cells area limit v n : ℕ) → count_of size done cells area limit v ≡ Ok n → cells + area * n ≤ limit
within_limit size done cells area limit v n = by_tests (nat_le (done + (v + 1)) (4 * most_rectangles size)) (nat_le (cells + area * (v + 1)) limit) refl
  where
    by_tests : (a b : Bool) → nat_le (cells + area * (v + 1)) limit ≡ b →
        if◌then◌else◌ {A = Result ℕ ErrorKind} a (if◌then◌else◌ {A = Result ℕ ErrorKind} b (Ok (v + 1)) (Err (BadProfile (codes "patches of too many cells")))) (Err (BadEnum (codes "places of a patch") v)) ≡ Ok n → cells + area * n ≤ limit
    by_tests true true t e = let same : v + 1 ≡ n = cc in rw (← same) (leb-true (cells + area * (v + 1)) limit t)
    by_tests true false t e = cc
    by_tests false b t e = cc

module _ {S : Type 0} (d : Meaning S) where
  -- how many cells places put
  abbrev put : Patches → ℕ
  put a = sum_by area a.places

  modes_add : (kinds n : ℕ) (a : Patches) (s : S) (b : After S Patches) (bytes : List ℕ) (p q : ℕ) → (chain (one_mode d kinds) n a s).Stands bytes p b q → put b.value ≡ put a
  unfolding chain
  modes_add kinds zero a s b bytes p q st = rw st.0 refl
  modes_add kinds (suc n) a s b bytes p q st =
      let first = st.2.3.3.3.0 in
      let places : put (st.0).value ≡ put a = ap (λ (t : After S Patches). put t.value) first in
      modes_add kinds n (st.0).value (st.0).state b bytes st.1 q st.3 ∙ places

  module _ (size : Size) (kinds k : ℕ) (r : Rectangle) where
    place_adds : (a : Patches) (s : S) (b : After S Patches) (bytes : List ℕ) (p q : ℕ) → (one_place d size kinds k r a s).Stands bytes p b q → put b.value ≡ put a + r.width * r.height
    place_adds a s b bytes p q st =
        let x = st.0 in
        let y = st.3.0 in
        let place : Place = record { source = r; x = x.value; y = y.value } in
        let more = sum_by_push area a.places place in
        let rest = modes_add kinds kinds (record { places = a.places ++ place ∷ []; modes = a.modes }) y.state b bytes st.3.1 q st.3.3 in
        omega (arith, more, rest)

    -- this number of places of a rectangle put its cells so often
    pub places_add : (n : ℕ) (a : Patches) (s : S) (b : After S Patches) (bytes : List ℕ) (p q : ℕ) → (chain (one_place d size kinds k r) n a s).Stands bytes p b q → put b.value ≡ put a + n * (r.width * r.height)
    unfolding chain
    places_add zero a s b bytes p q st = rw st.0 (omega arith)
    places_add (suc n) a s b bytes p q st =
        let first = place_adds a s st.0 bytes p st.1 st.2 in
        let rest = places_add n (st.0).value (st.0).state b bytes st.1 q st.3 in
        let more = suc-mul n (r.width * r.height) in
        omega (arith, first, rest, more)

  module _ (size : Size) (kinds : ℕ) (slots : List (Option Size)) (limit : ℕ) where
    rectangle_within : (a : Patches) (s : S) (b : After S Patches) (bytes : List ℕ) (p q : ℕ) → (one_rectangle d size kinds slots limit a s).Stands bytes p b q → put b.value ≤ limit
    rectangle_within a s b bytes p q st =
        let r = (st.0).value in
        let counted = st.3 in
        let n = (counted.0).value in
        let ok = token_ok d 7 (λ v. count_of size (length a.places) (put a) (r.width * r.height) limit v) (st.0).state bytes st.1 counted.0 counted.1 counted.2 in
        let most = within_limit size (length a.places) (put a) (r.width * r.height) limit ok.0 n ok.1 in
        let adds = places_add size kinds (length a.places) r n a (counted.0).state b bytes counted.1 q counted.3 in
        let turned = mul_comm n (r.width * r.height) in
        omega (arith, adds, turned, most)

    rectangles_within : (n : ℕ) (a : Patches) (s : S) (b : After S Patches) (bytes : List ℕ) (p q : ℕ) → put a ≤ limit → (chain (one_rectangle d size kinds slots limit) n a s).Stands bytes p b q → put b.value ≤ limit
    unfolding chain
    rectangles_within zero a s b bytes p q f st = rw st.0 f
    rectangles_within (suc n) a s b bytes p q f st = rectangles_within n (st.0).value (st.0).state b bytes st.1 q (rectangle_within a s st.0 bytes p st.1 st.2) st.3

pub cells_bounded : {S : Type 0} (d : Meaning S) (size : Size) (extra : ℕ) (slots : List (Option Size)) (limit : ℕ) (bytes : List ℕ) (p : ℕ) (patches : Patches) (q : ℕ) →
    (dictionary d size extra slots limit).Stands bytes p patches q → sum_by area patches.places ≤ limit
cells_bounded {S} d size extra slots limit bytes p patches q st =
    let told = st.3 in
    let counted = told.2 in
    let end = rectangles_within d size (1 + extra) slots limit (counted.0).value (record { places = []; modes = [] }) (counted.0).state told.0 bytes counted.1 told.1 (omega arith) counted.3 in
    let same : patches ≡ (told.0).value = told.3.3.0 in
    rw same end
