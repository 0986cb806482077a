-- The first box that is searched for, with one box more; and what was found.
use Rattle.std.proofs.Common.{◌≡◌, ℕ, ◌≤◌, Bool, true, false, List, [], ◌∷◌, ◌++◌, length, Option, Some, None, refl, sym, ◌∙◌, cond}
use Rattle.std.specs.Prelude.{◌||◌, find, is_some, MatchBool}
use Rattle.std.specs.List.{list_any}
use Rattle.std.specs.Option.{option_or}
use Rattle.std.proofs.lemmas.List.Folds.{find-append}
use Rattle.jxl_container.specs.Files.{Follow, has_signature}
use Rattle.jxl_container.specs.Metadata.{AreBoxes}
use Rattle.jxl_container.specs.Inner.Searches.{IsInside, is_sought}
use Rattle.jxl_container.proofs.FileLaws.{in_one_way}
use Rattle.jxl_container.specs.declared.boxes.FileBox.{FileBox}
use Rattle.jxl_container.specs.declared.error.FileError.{FileError}
use Rattle.jxl_container.specs.declared.metadata.Sought.{Sought}

pub first-more : (sought : Sought) (bytes : List ℕ) (boxes : List FileBox) (b : FileBox) →
    find (is_sought sought bytes) (boxes ++ b ∷ []) ≡ option_or (find (is_sought sought bytes) boxes) (cond (is_sought sought bytes b) (Some b) None)
first-more sought bytes boxes b = find-append (is_sought sought bytes) boxes (b ∷ [])

module _ (sought : Sought) (bytes : List ℕ) (b : FileBox) (ordered : b.body ≤ b.end) (inside : b.end ≤ length bytes) where
  this-inside : (is : Bool) → is_sought sought bytes b ≡ is → IsInside sought bytes (cond is (Some b) None)
  this-inside true e = (e, ordered, inside)
  this-inside false e = tt

  pub inside-more : (first : Option FileBox) → IsInside sought bytes first → IsInside sought bytes (option_or first (cond (is_sought sought bytes b) (Some b) None))
  inside-more (Some c) is = is
  inside-more None is = this-inside (is_sought sought bytes b) refl

-- the boxes that were searched, up to an error or to the end
pub searched : (bytes : List ℕ) (boxes : List FileBox) (error : Option FileError) → has_signature bytes ≡ true → Follow bytes [] 12 boxes error → AreBoxes bytes boxes
searched bytes boxes error signed follow = rw signed (error, follow)

-- some box is found exactly if some box passes
pub is_some-found : (p : FileBox → Bool) (boxes : List FileBox) → is_some (find p boxes) ≡ list_any p boxes
is_some-found p [] = refl
is_some-found p (b ∷ bs) = by (p b) (is_some-found p bs) where
  by : (t : Bool) → is_some (find p bs) ≡ list_any p bs → is_some (cond t (Some b) (find p bs)) ≡ (t || list_any p bs)
  by true rest = refl
  by false rest = rest

-- the boxes of a file are the only ones
pub one_boxes : (bytes : List ℕ) (xs ys : List FileBox) → AreBoxes bytes xs → AreBoxes bytes ys → xs ≡ ys
one_boxes bytes xs ys h k = by (has_signature bytes) h k where
  by : (t : Bool) → MatchBool t ((error : Option FileError) × Follow bytes [] 12 xs error) (xs ≡ []) → MatchBool t ((error : Option FileError) × Follow bytes [] 12 ys error) (ys ≡ []) → xs ≡ ys
  by true x y = (in_one_way bytes [] 12 xs ys x.0 y.0 x.1 y.1).0
  by false x y = x ∙ sym y
