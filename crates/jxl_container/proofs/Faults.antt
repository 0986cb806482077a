-- Why a box may not stand after others, reason by reason, is the same kind by kind.
use Rattle.std.proofs.Common.{◌≡◌, ℕ, ◌+◌, ◌%◌, ◌≤◌, Bool, true, false, List, [], ◌∷◌, ◌++◌, length, nat_lt, Option, Some, None, Ok, Err, refl, sym, subst, ◌∙◌, arith, cond}
use Rattle.std.specs.List.{fold}
use Rattle.std.specs.Prelude.{◌==◌, ◌&&◌, ◌||◌, not, count_by, find, is_some}
use Rattle.std.specs.List.{list_any}
use Rattle.std.specs.Option.{option_map_or}
use Rattle.std.proofs.lemmas.Bool.{le-ltb, eqb-true, ne_eqb}
use Rattle.jxl_container.specs.Boxes.{word_at, first_of, outside}
use Rattle.jxl_container.specs.Files.{is_whole, is_part, is_last, fault}
use Rattle.jxl_container.specs.Inner.Walks.{fault_by_kind, seen_in}
use Rattle.jxl_container.proofs.BoxCases.{in_file}
use Rattle.jxl_container.specs.declared.error.FileError.{FileError}
use Rattle.jxl_container.specs.declared.error.FileError.TheVariants.{FileType, SecondCodestream, BoxTooSmall, PartAfterLast, PartOutOfOrder, CompressedCodestream, JpegReconstruction}
use Rattle.jxl_container.specs.declared.boxes.FileBox.{FileBox}

found-step : {X : Type 0} (x : X) (o : Option X) (b any : Bool) → is_some o ≡ any → is_some (cond b (Some x) o) ≡ (b || any)
found-step x o true any h = refl
found-step x o false any h = h

pub any-found : {X : Type 0} (p : X → Bool) (xs : List X) → is_some (find p xs) ≡ list_any p xs
any-found p [] = refl
any-found p (x ∷ xs) = found-step x (find p xs) (p x) (list_any p xs) (any-found p xs)

some-or : (b : Bool) → (b || true) ≡ true
some-or true = refl
some-or false = refl

or-false : (b : Bool) → b ≡ (b || false)
or-false true = refl
or-false false = refl

counted-step : (b : Bool) (n : ℕ) (any : Bool) → (not (n == 0) || (b || any)) ≡ (not ((n + cond b 1 0) == 0) || any)
counted-step true n any = rw (ne_eqb (n + 1) 0 (λ e. omega arith)) (some-or (not (n == 0)))
counted-step false n any = let e : n + 0 ≡ n = omega arith in rw e refl

counted-from : {X : Type 0} (p : X → Bool) (n : ℕ) (xs : List X) → not (fold (λ a x. a + cond (p x) 1 0) n xs == 0) ≡ (not (n == 0) || list_any p xs)
counted-from p n [] = or-false (not (n == 0))
counted-from p n (x ∷ xs) = counted-from p (n + cond (p x) 1 0) xs ∙ sym (counted-step (p x) n (list_any p xs))

pub any-counted : {X : Type 0} (p : X → Bool) (xs : List X) → not (count_by p xs == 0) ≡ list_any p xs
any-counted p xs = counted-from p 0 xs

-- the reasons, by which kind a box is: a file type, a whole codestream, a part, compressed, a JPEG file
abbrev flat : (f w p c j first short whole any last order brand code : Bool) → Option FileError
flat f w p c j first short whole any last order brand code = first_of (
    (cond f (not first || short || not brand) first, FileType) ∷
    ((w || p) && whole || w && any, SecondCodestream) ∷
    ((p || c) && short, BoxTooSmall) ∷
    (p && last, PartAfterLast) ∷
    (p && not order, PartOutOfOrder) ∷
    (c && code, CompressedCodestream) ∷
    (j, JpegReconstruction) ∷ [])

abbrev nested : (f w p c j first short whole any last order brand code : Bool) → Option FileError
nested f w p c j first short whole any last order brand code =
    cond first (cond (f && not short && brand) None (Some FileType)) (
    cond w (cond (whole || any) (Some SecondCodestream) None) (
    cond p (cond whole (Some SecondCodestream) (cond short (Some BoxTooSmall) (cond last (Some PartAfterLast) (cond order None (Some PartOutOfOrder))))) (
    cond c (cond short (Some BoxTooSmall) (cond code (Some CompressedCodestream) None)) (
    cond j (Some JpegReconstruction) (cond f (Some FileType) None)))))

file-type : (first short whole any last order brand code : Bool) → flat true false false false false first short whole any last order brand code ≡ nested true false false false false first short whole any last order brand code
file-type false s w a l o b c = refl
file-type true true w a l o b c = refl
file-type true false w a l o true c = refl
file-type true false w a l o false c = refl

whole-one : (first short whole any last order brand code : Bool) → flat false true false false false first short whole any last order brand code ≡ nested false true false false false first short whole any last order brand code
whole-one true s w a l o b c = refl
whole-one false s true a l o b c = refl
whole-one false s false true l o b c = refl
whole-one false s false false l o b c = refl

part-one : (first short whole any last order brand code : Bool) → flat false false true false false first short whole any last order brand code ≡ nested false false true false false first short whole any last order brand code
part-one true s w a l o b c = refl
part-one false s true a l o b c = refl
part-one false true false a l o b c = refl
part-one false false false a true o b c = refl
part-one false false false a false true b c = refl
part-one false false false a false false b c = refl

compressed-one : (first short whole any last order brand code : Bool) → flat false false false true false first short whole any last order brand code ≡ nested false false false true false first short whole any last order brand code
compressed-one true s w a l o b c = refl
compressed-one false true w a l o b c = refl
compressed-one false false w a l o b true = refl
compressed-one false false w a l o b false = refl

jpeg-one : (first short whole any last order brand code : Bool) → flat false false false false true first short whole any last order brand code ≡ nested false false false false true first short whole any last order brand code
jpeg-one true s w a l o b c = refl
jpeg-one false s w a l o b c = refl

other-one : (first short whole any last order brand code : Bool) → flat false false false false false first short whole any last order brand code ≡ nested false false false false false first short whole any last order brand code
other-one true s w a l o b c = refl
other-one false s w a l o b c = refl

module _ (first short whole any last order brand code : Bool) where
  abbrev Same : ℕ → Type 0
  Same k = flat (k == 0x66747970) (k == 0x6A786C63) (k == 0x6A786C70) (k == 0x62726F62) (k == 0x6A627264) first short whole any last order brand code
      ≡ nested (k == 0x66747970) (k == 0x6A786C63) (k == 0x6A786C70) (k == 0x62726F62) (k == 0x6A627264) first short whole any last order brand code

  by_kind : (k : ℕ) (f w p c j : Bool) → (k == 0x66747970) ≡ f → (k == 0x6A786C63) ≡ w → (k == 0x6A786C70) ≡ p → (k == 0x62726F62) ≡ c → (k == 0x6A627264) ≡ j → Same k
  by_kind k true w p c j ef ew ep ec ej = subst Same (sym (eqb-true k 0x66747970 ef)) (file-type first short whole any last order brand code)
  by_kind k false true p c j ef ew ep ec ej = subst Same (sym (eqb-true k 0x6A786C63 ew)) (whole-one first short whole any last order brand code)
  by_kind k false false true c j ef ew ep ec ej = subst Same (sym (eqb-true k 0x6A786C70 ep)) (part-one first short whole any last order brand code)
  by_kind k false false false true j ef ew ep ec ej = subst Same (sym (eqb-true k 0x62726F62 ec)) (compressed-one first short whole any last order brand code)
  by_kind k false false false false true ef ew ep ec ej = subst Same (sym (eqb-true k 0x6A627264 ej)) (jpeg-one first short whole any last order brand code)
  by_kind k false false false false false ef ew ep ec ej = rw (ef, ew, ep, ec, ej) (other-one first short whole any last order brand code)

  same : (k : ℕ) → Same k
  same k = by_kind k (k == 0x66747970) (k == 0x6A786C63) (k == 0x6A786C70) (k == 0x62726F62) (k == 0x6A627264) refl refl refl refl refl

-- of a box in the file
pub fault-is : (bytes : List ℕ) (before : List FileBox) (b : FileBox) → b.body ≤ b.end → b.end ≤ length bytes → fault bytes before b ≡ fault_by_kind bytes (seen_in bytes before) b
unfolding fault fault_by_kind outside
fault-is bytes before b ordered within =
    rw (le-ltb (length bytes) b.body (omega arith), le-ltb b.end b.body ordered, le-ltb (length bytes) b.end within, any-found is_whole before, any-counted is_part before)
    (same (length before == 0) (nat_lt b.end (b.body + 4)) (list_any is_whole before) (list_any is_part before) (list_any (is_last bytes) before)
    (word_at bytes b.body % 0x80000000 == count_by is_part before) (word_at bytes b.body == 0x6A786C20) ((word_at bytes b.body == 0x6A786C63) || (word_at bytes b.body == 0x6A786C70)) b.kind)

first-step : (t : Bool) (x : FileError) (xs ys : List (Bool × FileError)) (e : FileError) → (first_of xs ≡ Some e → first_of (xs ++ ys) ≡ Some e) →
    first_of ((t, x) ∷ xs) ≡ Some e → first_of ((t, x) ∷ (xs ++ ys)) ≡ Some e
first-step true x xs ys e rest h = h
first-step false x xs ys e rest h = rest h

first-append : (xs ys : List (Bool × FileError)) (e : FileError) → first_of xs ≡ Some e → first_of (xs ++ ys) ≡ Some e
first-append [] ys e h = cc
first-append (x ∷ xs) ys e h = first-step x.0 x.1 xs ys e (first-append xs ys e) h

error-is : (o : Option FileError) (b : FileBox) (e : FileError) → option_map_or Err o (Ok b) ≡ Err e → o ≡ Some e
error-is None b e h = cc
error-is (Some x) b e h = cc

-- a box that is not in the file
pub outside-faults : (bytes : List ℕ) (before : List FileBox) (b : FileBox) (e : FileError) → in_file bytes b ≡ Err e → fault bytes before b ≡ Some e
unfolding fault
outside-faults bytes before b e h = first-append (outside bytes b) _ e (error-is (first_of (outside bytes b)) b e h)

stands-step : (o : Option FileError) (b c : FileBox) → option_map_or Err o (Ok b) ≡ Ok c → c ≡ b
stands-step None b c h = cc
stands-step (Some x) b c h = cc

-- and one that is
pub if-in-file : (bytes : List ℕ) (b c : FileBox) → in_file bytes b ≡ Ok c → c ≡ b
if-in-file bytes b c h = stands-step (first_of (outside bytes b)) b c h
