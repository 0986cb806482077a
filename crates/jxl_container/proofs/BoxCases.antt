-- A box as it stands in a file, case by case, is the one that its fields name.
use Rattle.std.proofs.Common.{◌≡◌, ℕ, ◌+◌, ◌*◌, Bool, true, false, List, [], ◌∷◌, length, nat_lt, Result, Ok, Err, refl, arith, cond}
use Rattle.std.specs.Prelude.{◌==◌}
use Rattle.std.specs.Option.{option_map_or}
use Rattle.std.proofs.lemmas.Bool.{lt-ltb, le-ltb, eqb-true, ltb-true}
use Rattle.jxl_container.specs.Boxes.{word_at, box_from, first_of, outside}
use Rattle.jxl_container.specs.Inner.Walks.{sized_box, long_box, box_by_size}
use Rattle.jxl_container.specs.declared.error.FileError.{FileError}
use Rattle.jxl_container.specs.declared.error.FileError.TheVariants.{TruncatedBox, BoxTooSmall}
use Rattle.jxl_container.specs.declared.boxes.FileBox.{FileBox}

-- the box, or the first reason for which it is not in the file
abbrev pub in_file : List ℕ → FileBox → Result FileBox FileError
in_file bytes b = option_map_or Err (first_of (outside bytes b)) (Ok b)

three : (a b c : Bool) (x : FileBox) → cond a (Err TruncatedBox) (cond b (Err BoxTooSmall) (cond c (Err TruncatedBox) (Ok x)))
    ≡ option_map_or Err (first_of ((a, TruncatedBox) ∷ (b, BoxTooSmall) ∷ (c, TruncatedBox) ∷ [])) (Ok x)
three true b c x = refl
three false true c x = refl
three false false true x = refl
three false false false x = refl

module _ (bytes : List ℕ) (p : ℕ) where
  by_size : (short zero_size one_size : Bool) → nat_lt (length bytes) (p + 8) ≡ short → (word_at bytes p == 0) ≡ zero_size →
      (word_at bytes p == 1) ≡ one_size → box_by_size bytes p ≡ in_file bytes (box_from bytes p)
  unfolding box_by_size long_box sized_box box_from outside
  by_size true z true e f g = rw (f, g) (rw (e, lt-ltb (length bytes) (p + 16) (let h = ltb-true (length bytes) (p + 8) e in omega arith)) refl)
  by_size true z false e f g = rw (f, g) (rw e refl)
  by_size false true true e f g = absurd (let h = eqb-true (word_at bytes p) 0 f in let k = eqb-true (word_at bytes p) 1 g in omega arith)
  by_size false true false e f g = rw (f, g) (rw (e, le-ltb (length bytes) (length bytes) (omega arith)) refl)
  by_size false false true e f g = rw (e, f, g) (three (nat_lt (length bytes) (p + 16)) (nat_lt (p + (word_at bytes (p + 8) * 4294967296 + word_at bytes (p + 12))) (p + 16))
      (nat_lt (length bytes) (p + (word_at bytes (p + 8) * 4294967296 + word_at bytes (p + 12)))) _)
  by_size false false false e f g = rw (f, g) (rw e (three false (nat_lt (p + word_at bytes p) (p + 8)) (nat_lt (length bytes) (p + word_at bytes p)) _))

  pub sized_is : box_by_size bytes p ≡ in_file bytes (box_from bytes p)
  sized_is = by_size (nat_lt (length bytes) (p + 8)) (word_at bytes p == 0) (word_at bytes p == 1) refl refl refl
