-- Boxes that follow one another, and what they have.
use Rattle.std.proofs.Common.{◌≡◌, ◌<◌, ℕ, ◌+◌, Bool, true, false, List, [], ◌∷◌, ◌++◌, length, Some, None, Result, Ok, Err, refl, sym, ap, ◌∙◌, append_assoc, length-append, arith, cond}
use Rattle.std.specs.Prelude.{◌==◌, ◌||◌, not, IfErr, IfOk, MatchBool, Option, is_ok, unwrap_or, count_by, slice_range}
use Rattle.std.specs.List.{list_any, flat_map, filter}
use Rattle.std.proofs.lemmas.List.{append-nil}
use Rattle.std.proofs.lemmas.List.Folds.{find-append, list_any-append}
use Rattle.std.proofs.lemmas.Grind.{flat_map-append}
use Rattle.std.proofs.lemmas.List.Sums.{sum_by-append}
use Rattle.std.proofs.lemmas.Bool.{lt-ltb, eqb-true, eq-eqb, ne_eqb}
use Rattle.jxl_container.specs.Boxes.{word_at, box_from, outside}
use Rattle.jxl_container.specs.Files.{is_whole, is_part, is_last, fault, Follow, contents, is_bare, has_signature, HasCodestream, HasLaterError, UnlessMemory, stream_of}
use Rattle.jxl_container.specs.Inner.Walks.{seen_in, part_of, contents_of, with_box, Boxed, Reach, Finishes}
use Rattle.jxl_container.proofs.Faults.{any-counted}
use Rattle.jxl_container.specs.declared.error.FileError.{FileError}
use Rattle.jxl_container.specs.declared.error.FileError.TheVariants.{NotJpegXl, TruncatedBox, BoxTooSmall, FileType, SecondCodestream, PartAfterLast, PartOutOfOrder, NoLastPart, NoCodestream, JpegReconstruction, CompressedCodestream, OutOfMemory}
use Rattle.jxl_container.specs.declared.codestream.Found.{Found}
use Rattle.jxl_container.specs.declared.boxes.FileBox.{FileBox}

-- one box more is reached
pub reach-more : (bytes : List ℕ) (before : List FileBox) (p : ℕ) (boxes : List FileBox) (q : ℕ) (b : FileBox) → Reach bytes before p boxes q →
    b ≡ box_from bytes q → fault bytes (before ++ boxes) b ≡ None → Reach bytes before p (boxes ++ b ∷ []) b.end
reach-more bytes before p [] q b so_far stands fits =
    (rw so_far stands, rw (append-nil before) at fits, refl)
reach-more bytes before p (c ∷ boxes) q b so_far stands fits = (
  so_far.0,
  so_far.1,
  reach-more bytes (before ++ c ∷ []) c.end boxes q b so_far.2 stands
      (rw (append_assoc before (c ∷ []) boxes) fits),
)

-- what the last box that was reached leads to, the first leads to
pub follow-all : (bytes : List ℕ) (before : List FileBox) (p : ℕ) (boxes : List FileBox) (q : ℕ) (error : Option FileError) → Reach bytes before p boxes q →
    Follow bytes (before ++ boxes) q [] error → Follow bytes before p boxes error
follow-all bytes before p [] q error so_far ends = rw so_far (rw (append-nil before) at ends)
follow-all bytes before p (c ∷ boxes) q error so_far ends = (
  so_far.0,
  so_far.1,
  follow-all bytes (before ++ c ∷ []) c.end boxes q error so_far.2 (rw (append_assoc before (c ∷ []) boxes) ends),
)

one-more : (t : Bool) (n : ℕ) → n + (0 + cond t 1 0) ≡ cond t (n + 1) n
one-more true n = omega arith
one-more false n = omega arith

first-more : (boxes : List FileBox) (b : FileBox) → (length (boxes ++ b ∷ []) == 0) ≡ false
first-more boxes b = ne_eqb (length (boxes ++ b ∷ [])) 0 (λ e. let l = length-append boxes (b ∷ []) in omega arith)

last-more : (bytes : List ℕ) (boxes : List FileBox) (b : FileBox) (t : Bool) → (list_any (is_last bytes) boxes || (t || false)) ≡ (list_any (is_last bytes) boxes || t)
last-more bytes boxes b true = refl
last-more bytes boxes b false = refl

-- what boxes have with one more
pub seen-more : (bytes : List ℕ) (boxes : List FileBox) (b : FileBox) → seen_in bytes (boxes ++ b ∷ []) ≡ with_box bytes (seen_in bytes boxes) b
seen-more bytes boxes b =
    let counted : count_by is_part (boxes ++ b ∷ []) ≡ cond (is_part b) (count_by is_part boxes + 1) (count_by is_part boxes) =
    sum_by-append (λ x. cond (is_part x) 1 0) boxes (b ∷ []) ∙ one-more (is_part b) (count_by is_part boxes) in
    let any : list_any (is_last bytes) (boxes ++ b ∷ []) ≡ (list_any (is_last bytes) boxes || is_last bytes b) =
    list_any-append (is_last bytes) boxes (b ∷ []) ∙ last-more bytes boxes b (is_last bytes b) in
    rw (first-more boxes b, find-append is_whole boxes (b ∷ []), counted, any) refl

-- the parts with one box more
pub parts-more : (bytes : List ℕ) (boxes : List FileBox) (b : FileBox) → flat_map (part_of bytes) (boxes ++ b ∷ []) ≡ flat_map (part_of bytes) boxes ++ part_of bytes b
parts-more bytes boxes b = flat_map-append (part_of bytes) boxes (b ∷ []) ∙ ap (λ xs. flat_map (part_of bytes) boxes ++ xs) (append-nil (part_of bytes b))

filtered-step : {X A : Type 0} (t : Bool) (f : X → List A) (x : X) (xs : List X) (all : List A) → flat_map f xs ≡ all → flat_map f (cond t (x ∷ xs) xs) ≡ cond t (f x) [] ++ all
filtered-step true f x xs all h = ap (λ ys. f x ++ ys) h
filtered-step false f x xs all h = h

filtered : {X A : Type 0} (test : X → Bool) (f : X → List A) (xs : List X) → flat_map f (filter test xs) ≡ flat_map (λ x. cond (test x) (f x) []) xs
filtered test f [] = refl
filtered test f (x ∷ xs) = filtered-step (test x) f x (filter test xs) (flat_map (λ x. cond (test x) (f x) []) xs) (filtered test f xs)

absent : (t : Bool) (error : Option FileError) → ◌≡◌ {A = Result (List ℕ) FileError} (Err (unwrap_or error (cond (not t) NoLastPart NoCodestream))) (Err (unwrap_or error (cond t NoCodestream NoLastPart)))
absent true error = refl
absent false error = refl

-- the codestream by what boxes have
pub contents-are : (bytes : List ℕ) (boxes : List FileBox) (error : Option FileError) → contents bytes boxes error ≡ contents_of bytes (seen_in bytes boxes) (flat_map (part_of bytes) boxes) error
unfolding contents contents_of
contents-are bytes boxes error = rw (filtered is_part (λ b. slice_range bytes (b.body + 4) b.end) boxes, sym (any-counted is_part boxes), absent (count_by is_part boxes == 0) error) refl

-- what is so at any error is so unless it is out of memory
pub unless-memory : (e : FileError) (P : Type 0) → P → UnlessMemory e P
unless-memory e P h = elim e as (λ e. UnlessMemory e P) [ NotJpegXl ↦ h | TruncatedBox ↦ h | BoxTooSmall ↦ h | FileType ↦ h | SecondCodestream ↦ h | PartAfterLast ↦ h | PartOutOfOrder ↦ h | NoLastPart ↦ h | NoCodestream ↦ h | JpegReconstruction ↦ h | CompressedCodestream ↦ h | OutOfMemory ↦ tt ]

-- a codestream that is finished is that of the boxes, and so is the error after it
pub finished_ok : (bytes : List ℕ) (boxes : List FileBox) (error : Option FileError) (r : Result Found FileError) → Finishes (contents bytes boxes error) error r → Follow bytes [] 12 boxes error →
    IfOk r (λ found. Boxed bytes found.later_error (Ok (stream_of found.codestream)))
finished_ok bytes boxes error (Ok found) h follows = (boxes, rw h.1 follows, rw h.1 (sym h.0))
finished_ok bytes boxes error (Err e) h follows = tt

-- and so is the reason why there is none
pub finished_err : (bytes : List ℕ) (boxes : List FileBox) (error : Option FileError) (r : Result Found FileError) → Finishes (contents bytes boxes error) error r → Follow bytes [] 12 boxes error →
    IfErr r (λ e. UnlessMemory e ((error : Option FileError) × Boxed bytes error (Err e)))
finished_err bytes boxes error (Ok found) h follows = tt
finished_err bytes boxes error (Err e) h follows = unless-memory e _ (error, (boxes, follows, sym h))

-- among boxes with a codestream it is
pub later_error : (bytes : List ℕ) (error : Option FileError) (stream : List ℕ) → Boxed bytes error (Ok stream) →
    (boxes : List FileBox) × Follow bytes [] 12 boxes error × (is_ok (contents bytes boxes error) ≡ true)
later_error bytes error stream h = (h.0, h.1, rw (sym h.2) refl)

module _ (bytes : List ℕ) where
  -- boxes that reach the end, and what stands next if they do not
  pub all-follow : (boxes : List FileBox) (p : ℕ) → p ≡ length bytes → Follow bytes boxes p [] None
  all-follow boxes p e = rw (eq-eqb p (length bytes) e) refl

  pub next-fails : (boxes : List FileBox) (p : ℕ) (e : FileError) → p < length bytes → fault bytes boxes (box_from bytes p) ≡ Some e → Follow bytes boxes p [] (Some e)
  next-fails boxes p e inside h = rw (ne_eqb p (length bytes) (λ same. omega arith)) (e, h, refl)

  -- at the end of the file no box stands
  header-in : (one : Bool) (p : ℕ) → p < cond one (p + 16) (p + 8)
  header-in true p = omega arith
  header-in false p = omega arith

  none_at_end : (before : List FileBox) → fault bytes before (box_from bytes (length bytes)) ≡ Some TruncatedBox
  unfolding fault outside box_from
  none_at_end before = rw (lt-ltb (length bytes) _ (header-in (word_at bytes (length bytes) == 1) (length bytes))) refl

  -- a box that may stand ends no walk
  goes_on : (boxes : List FileBox) (p : ℕ) (b : FileBox) (s : Option FileError) (end : Bool) → (p == length bytes) ≡ end →
      b ≡ box_from bytes p → fault bytes boxes b ≡ None → Follow bytes boxes p [] s → ⊥
  goes_on boxes p b s true at_end stands fits ends =
      let same : p ≡ length bytes = eqb-true p (length bytes) at_end in
      let err : fault bytes boxes (box_from bytes p) ≡ Some TruncatedBox = rw same (none_at_end boxes) in
      cc
  goes_on boxes p b s false at_end stands fits ends =
      let stops = rw at_end at ends in
      let some = stops.1 in
      cc

  one_end : (boxes : List FileBox) (p : ℕ) (end : Bool) (s t : Option FileError) →
      MatchBool end (s ≡ None) ((e : FileError) × (fault bytes boxes (box_from bytes p) ≡ Some e) × (s ≡ Some e)) →
      MatchBool end (t ≡ None) ((e : FileError) × (fault bytes boxes (box_from bytes p) ≡ Some e) × (t ≡ Some e)) → s ≡ t
  one_end boxes p true s t h k = h ∙ sym k
  one_end boxes p false s t h k = h.2 ∙ sym h.1 ∙ k.1 ∙ sym k.2

  -- boxes from a place on are the only ones, and have one first error
  pub in_one_way : (before : List FileBox) (p : ℕ) (xs ys : List FileBox) (s t : Option FileError) →
      Follow bytes before p xs s → Follow bytes before p ys t → (xs ≡ ys) × (s ≡ t)
  in_one_way before p [] [] s t h k = (refl, one_end before p (p == length bytes) s t h k)
  in_one_way before p [] (y ∷ ys) s t h k = absurd (goes_on before p y s (p == length bytes) refl k.0 k.1 h)
  in_one_way before p (x ∷ xs) [] s t h k = absurd (goes_on before p x t (p == length bytes) refl h.0 h.1 k)
  in_one_way before p (x ∷ xs) (y ∷ ys) s t h k =
      let same : y ≡ x = k.0 ∙ sym h.0 in
      let k2 : Follow bytes (before ++ x ∷ []) x.end ys t = rw (sym same) k.2 in
      let rest = in_one_way (before ++ x ∷ []) x.end xs ys s t h.2 k2 in
      (rw (same, rest.0) refl, rest.1)

  abbrev Walk : Result (List ℕ) FileError → Type 0
  Walk s = (boxes : List FileBox) × (error : Option FileError) × Follow bytes [] 12 boxes error × (s ≡ contents bytes boxes error)

  one_of_boxes : (boxed : Bool) (s t : Result (List ℕ) FileError) (e : Result (List ℕ) FileError) → MatchBool boxed (Walk s) (s ≡ e) → MatchBool boxed (Walk t) (t ≡ e) → s ≡ t
  one_of_boxes true s t e h k =
      let same = in_one_way [] 12 h.0 k.0 h.1 k.1 h.2 k.2 in
      h.3 ∙ rw (same.0, same.1) refl ∙ sym k.3
  one_of_boxes false s t e h k = h ∙ sym k

  one_of_all : (bare boxed : Bool) (s t e : Result (List ℕ) FileError) → MatchBool bare (s ≡ Ok bytes) (MatchBool boxed (Walk s) (s ≡ e)) → MatchBool bare (t ≡ Ok bytes) (MatchBool boxed (Walk t) (t ≡ e)) → s ≡ t
  one_of_all true boxed s t e h k = h ∙ sym k
  one_of_all false boxed s t e h k = one_of_boxes boxed s t e h k

  pub one_codestream : (s t : Result (List ℕ) FileError) → HasCodestream bytes s → HasCodestream bytes t → s ≡ t
  one_codestream s t h k = one_of_all (is_bare bytes) (has_signature bytes) s t (Err NotJpegXl) h k

  abbrev Later : Option FileError → Type 0
  Later e = (boxes : List FileBox) × Follow bytes [] 12 boxes e × (is_ok (contents bytes boxes e) ≡ true)

  one_later : (bare : Bool) (e f : Option FileError) → MatchBool bare (e ≡ None) (Later e) → MatchBool bare (f ≡ None) (Later f) → e ≡ f
  one_later true e f h k = h ∙ sym k
  one_later false e f h k = (in_one_way [] 12 h.0 k.0 e f h.1 k.1).1

  pub one_later_error : (e f : Option FileError) → HasLaterError bytes e → HasLaterError bytes f → e ≡ f
  one_later_error e f h k = one_later (is_bare bytes) e f h k
