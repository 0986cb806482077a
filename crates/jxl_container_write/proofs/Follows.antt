-- The boxes of a file that was written: they follow one another.
use Rattle.std.proofs.Common.{◌≡◌, ℕ, ◌+◌, ◌≤◌, Bool, true, false, List, [], ◌∷◌, ◌++◌, length, Option, Some, None, Result, Ok, refl, sym, ap, subst, ◌∙◌, arith, append_assoc}
use Rattle.std.specs.Prelude.{◌==◌, ◌||◌, nat_lt, find, map, slice_range, MatchBool, is_ok}
use Rattle.std.specs.List.{list_any}
use Rattle.std.specs.Option.{option_map, option_map_or}
use Rattle.std.proofs.lemmas.List.{append-nil, length-append}
use Rattle.std.proofs.lemmas.List.Folds.{list_any-append}
use Rattle.std.proofs.lemmas.Bool.{le-ltb, eq-eqb, ne_eqb}
use Rattle.jxl_container.specs.Boxes.{word_at, box_from, outside}
use Rattle.jxl_container.specs.Files.{Follow, HasCodestream, HasLaterError, contents, fault, is_last, is_part, is_whole}
use Rattle.jxl_container.specs.declared.error.FileError.{FileError}
use Rattle.jxl_container.specs.declared.boxes.FileBox.{FileBox}
use Rattle.jxl_container_write.specs.Containers.{BoxContents, HasBoxes, file_type, whole_box}
use Rattle.jxl_container_write.specs.Inner.Spelled.{box_bytes, all_bytes, signature}
use Rattle.jxl_container_write.proofs.Places.{Fits, place_of, header_size, length-box, box_is, contents_are}

-- a type of boxes that may be anywhere after the first
pub record IsPlain (kind : ℕ) : Type 0 where
  pub no_type : (kind == 0x66747970) ≡ false
  pub no_whole : (kind == 0x6A786C63) ≡ false
  pub no_part : (kind == 0x6A786C70) ≡ false
  pub no_brob : (kind == 0x62726F62) ≡ false
  pub no_jbrd : (kind == 0x6A627264) ≡ false

-- boxes, one at least, without a codestream
pub record AreBefore (file : List ℕ) (before : List FileBox) : Type 0 where
  pub some : (length before == 0) ≡ false
  pub no_whole : list_any is_whole before ≡ false
  pub no_part : list_any is_part before ≡ false
  pub no_last : list_any (is_last file) before ≡ false

module _ (file : List ℕ) (b : FileBox) (ordered : b.body ≤ b.end) (inside : b.end ≤ length file) where
  lies : (nat_lt (length file) b.body ≡ false) × (nat_lt b.end b.body ≡ false) × (nat_lt (length file) b.end ≡ false)
  lies = (le-ltb (length file) b.body (omega (arith, ordered, inside)), le-ltb b.end b.body ordered, le-ltb (length file) b.end inside)

  -- a file type box with its brand comes first
  pub type_first : (b.kind == 0x66747970) ≡ true → (b.kind == 0x6A786C63) ≡ false → (b.kind == 0x6A786C70) ≡ false → (b.kind == 0x62726F62) ≡ false → (b.kind == 0x6A627264) ≡ false →
      b.body + 4 ≤ b.end → word_at file b.body ≡ 0x6A786C20 → fault file [] b ≡ None
  unfolding fault outside
  type_first is w p c j room brand = rw (lies.0, lies.1, lies.2, is, w, p, c, j, le-ltb b.end (b.body + 4) room, brand) refl

  -- a box without a codestream may come after these,
  pub plain_later : (before : List FileBox) → AreBefore file before → IsPlain b.kind → fault file before b ≡ None
  unfolding fault outside
  plain_later before a k = rw (lies.0, lies.1, lies.2, a.some, a.no_whole, a.no_part, a.no_last, k.no_type, k.no_whole, k.no_part, k.no_brob, k.no_jbrd) refl

  -- and so may the codestream
  pub whole_later : (before : List FileBox) → AreBefore file before → b.kind ≡ 0x6A786C63 → fault file before b ≡ None
  unfolding fault outside
  whole_later before a k = rw (lies.0, lies.1, lies.2, a.some, a.no_whole, a.no_part, a.no_last, k) refl

none_more : (t u : Bool) → t ≡ false → u ≡ false → (t || (u || false)) ≡ false
none_more t u e f = rw (e, f) refl

-- and one more
one_more : (file : List ℕ) (before : List FileBox) (b : FileBox) → list_any is_whole before ≡ false → list_any is_part before ≡ false → list_any (is_last file) before ≡ false →
    (b.kind == 0x6A786C63) ≡ false → (b.kind == 0x6A786C70) ≡ false → AreBefore file (before ++ b ∷ [])
one_more file before b w p l no_whole no_part = record {
  some = ne_eqb (length (before ++ b ∷ [])) 0 (λ e. let n = length-append before (b ∷ []) in omega (arith, e, n));
  no_whole = list_any-append is_whole before (b ∷ []) ∙ none_more (list_any is_whole before) (is_whole b) w no_whole;
  no_part = list_any-append is_part before (b ∷ []) ∙ none_more (list_any is_part before) (is_part b) p no_part;
  no_last = list_any-append (is_last file) before (b ∷ []) ∙ none_more (list_any (is_last file) before) (is_last file b) l (rw no_part refl);
}

-- Boxes follow one another from p on, after others, up to the end of the file. These are they; the first codestream of them is this.
pub record Walk (file : List ℕ) (before : List FileBox) (p : ℕ) (boxes : List BoxContents) (codestream : List ℕ) : Type 0 where
  pub places : List FileBox
  pub follow : Follow file before p places None
  pub are : map (λ b. (b.kind, slice_range file b.body b.end)) places ≡ boxes
  pub found : option_map (λ b. slice_range file b.body b.end) (find is_whole places) ≡ Some codestream

-- a type that is no codestream
pub record IsPlainBox (c : BoxContents) : Type 0 where
  pub fits : Fits c
  pub plain : IsPlain c.0

pair_same : (k l : ℕ) (xs ys : List ℕ) → k ≡ l → xs ≡ ys → ◌≡◌ {A = BoxContents} (k, xs) (l, ys)
pair_same k l xs ys e f = rw (e, f) refl

abbrev pub ArePlain : List BoxContents → Type 0
ArePlain [] = Unit {0}
ArePlain (c ∷ cs) = IsPlainBox c × ArePlain cs

-- the type and the contents of a box
abbrev seen_in : List ℕ → FileBox → BoxContents
seen_in file b = (b.kind, slice_range file b.body b.end)

same_list : (file : List ℕ) (b : FileBox) (places : List FileBox) (c : BoxContents) (cs : List BoxContents) → b.kind ≡ c.0 → slice_range file b.body b.end ≡ c.1 → map (seen_in file) places ≡ cs →
    map (seen_in file) (b ∷ places) ≡ c ∷ cs
same_list file b places c cs k s m = ap (λ x. x ∷ map (seen_in file) places) (pair_same b.kind c.0 (slice_range file b.body b.end) c.1 k s) ∙ ap (λ ys. c ∷ ys) m

module _ (codestream : List ℕ) (fits : Fits (whole_box codestream)) where
  last_box : (head : List ℕ) (before : List FileBox) → AreBefore (head ++ (box_bytes (whole_box codestream) ++ [])) before →
      Walk (head ++ (box_bytes (whole_box codestream) ++ [])) before (length head) (whole_box codestream ∷ []) codestream
  last_box head before a =
      let file = head ++ (box_bytes (whole_box codestream) ++ []) in
      let b = place_of (length head) (whole_box codestream) in
      let l : length file ≡ b.end = length-append head (box_bytes (whole_box codestream) ++ []) ∙ ap (λ xs. length head + length xs) (append-nil (box_bytes (whole_box codestream)))
      ∙ ap (λ n. length head + n) (length-box (whole_box codestream)) ∙ (let e : length head + (header_size (length codestream) + length codestream) ≡ length head + header_size (length codestream) + length codestream = omega arith in e) in
      let found : slice_range file b.body b.end ≡ codestream = contents_are head [] (whole_box codestream) fits in
      let ends : (b.end == length file) ≡ true = eq-eqb b.end (length file) (sym l) in
      record {
        places = b ∷ [];
        follow = (
          sym (box_is head [] (whole_box codestream) fits),
          whole_later file b (omega arith) (omega (arith, l)) before a refl,
          subst (λ (t : Bool). MatchBool t (◌≡◌ {A = Option FileError} None None) ((e : FileError) × (fault file (before ++ b ∷ []) (box_from file b.end) ≡ Some e) × (◌≡◌ {A = Option FileError} None (Some e)))) (sym ends) refl,
        );
        are = ap (λ xs. (0x6A786C63, xs) ∷ []) found;
        found = ap (λ xs. Some xs) found;
      }

  -- boxes without a codestream, and after them the codestream
  walk : (others : List BoxContents) → ArePlain others → (file head : List ℕ) (before : List FileBox) → file ≡ head ++ all_bytes (others ++ whole_box codestream ∷ []) →
      AreBefore file before → Walk file before (length head) (others ++ whole_box codestream ∷ []) codestream
  walk [] all file head before e b =
      subst (λ (f : List ℕ). Walk f before (length head) (whole_box codestream ∷ []) codestream) (sym e) (last_box head before (subst (λ (f : List ℕ). AreBefore f before) e b))
  walk (c ∷ cs) all file head before e b =
      let tail : List ℕ = all_bytes (cs ++ whole_box codestream ∷ []) in
      let place = place_of (length head) c in
      let next : file ≡ (head ++ box_bytes c) ++ tail = e ∙ sym (append_assoc head (box_bytes c) tail) in
      let here : box_from file (length head) ≡ place = ap (λ f. box_from f (length head)) e ∙ box_is head tail c all.0.fits in
      let found : slice_range file place.body place.end ≡ c.1 = ap (λ f. slice_range f place.body place.end) e ∙ contents_are head tail c all.0.fits in
      let l = length-append head (box_bytes c) in
      let m = length-box c in
      let n = length-append (head ++ box_bytes c) tail in
      let ends : length (head ++ box_bytes c) ≡ place.end = omega (arith, l, m) in
      let inside : place.end ≤ length file = let k = ap length next in omega (arith, k, n, ends) in
      let more = walk cs all.1 file (head ++ box_bytes c) (before ++ place ∷ []) next (one_more file before place b.no_whole b.no_part b.no_last all.0.plain.no_whole all.0.plain.no_part) in
      record {
        places = place ∷ more.places;
        follow = (sym here, plain_later file place (omega arith) inside before b all.0.plain, subst (λ (q : ℕ). Follow file (before ++ place ∷ []) q more.places None) ends more.follow);
        are = same_list file place more.places c (cs ++ whole_box codestream ∷ []) refl found more.are;
        found = rw all.0.plain.no_whole more.found;
      }

-- What a file in boxes has.
pub record Written (file : List ℕ) (boxes : List BoxContents) (codestream : List ℕ) : Type 0 where
  pub boxes_are : HasBoxes file boxes
  pub has : HasCodestream file (Ok codestream)
  pub sound : HasLaterError file None

by_found : (f : FileBox → List ℕ) (o : Option FileBox) (codestream : List ℕ) (r : Result (List ℕ) FileError) → option_map f o ≡ Some codestream → option_map_or (λ b. Ok (f b)) o r ≡ Ok codestream
by_found f (Some b) codestream r e = cc
by_found f None codestream r e = absurd (let h = e in cc)

contents_found : (file : List ℕ) (places : List FileBox) (codestream : List ℕ) → option_map (λ b. slice_range file b.body b.end) (find is_whole places) ≡ Some codestream →
    contents file places None ≡ Ok codestream
unfolding contents
contents_found file places codestream e = by_found (λ b. slice_range file b.body b.end) (find is_whole places) codestream _ e

module _ (codestream : List ℕ) (fits : Fits (whole_box codestream)) (others : List BoxContents) (all : ArePlain others) where
  abbrev tail : List ℕ
  tail = all_bytes (others ++ whole_box codestream ∷ [])

  abbrev file : List ℕ
  file = signature ++ (box_bytes file_type ++ tail)

  type_place : box_from file 12 ≡ record { kind = 0x66747970; body = 20; end = 32 }
  type_place = box_is signature tail file_type (record { kind = omega arith; size = omega arith })

  type_contents : slice_range file 20 32 ≡ file_type.1
  type_contents = contents_are signature tail file_type (record { kind = omega arith; size = omega arith })

  brand : word_at file 20 ≡ 0x6A786C20
  unfolding word_at
  brand = refl

  inside : 32 ≤ length file
  inside = omega arith

  boxes_walk : Walk file [] 12 (file_type ∷ (others ++ whole_box codestream ∷ [])) codestream
  boxes_walk =
      let place : FileBox = record { kind = 0x66747970; body = 20; end = 32 } in
      let more = walk codestream fits others all file (signature ++ box_bytes file_type) (place ∷ []) refl (one_more file [] place refl refl refl refl refl) in
      record {
        places = place ∷ more.places;
        follow = (sym type_place, type_first file place (omega arith) inside refl refl refl refl refl (omega arith) brand, more.follow);
        are = same_list file place more.places file_type (others ++ whole_box codestream ∷ []) refl type_contents more.are;
        found = more.found;
      }

  pub file_written : (v : List ℕ) → v ≡ file → Written v (file_type ∷ (others ++ whole_box codestream ∷ [])) codestream
  file_written v e =
      let w = boxes_walk in
      let c = contents_found file w.places codestream w.found in
      subst (λ (f : List ℕ). Written f (file_type ∷ (others ++ whole_box codestream ∷ [])) codestream) (sym e) (record {
        boxes_are = record { signature = refl; places = w.places; follow = w.follow; are = w.are };
        has = (w.places, None, w.follow, sym c);
        sound = (w.places, w.follow, ap is_ok c);
      })
