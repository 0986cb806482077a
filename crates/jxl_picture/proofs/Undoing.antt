-- An orientation is undone by another.
use Rattle.std.proofs.Common.{◌≡◌, ℕ, ◌<◌, ℤ, Bool, true, false, refl, sym, ◌∙◌, arith}
use Rattle.std.specs.Prelude.{◌==◌, ◌||◌, if◌then◌else◌}
use Rattle.std.proofs.lemmas.Bool.Decides.{nat_tests}
use Rattle.jxlm_base.specs.Grid.{Grid, cell}
use Rattle.jxl_picture.specs.Orientations.{IsOriented, place_counted, is_turned, undoing}

-- which orientations count columns from the right, and rows from the bottom
abbrev from_right : ℕ → Bool
from_right o = (o == 2) || (o == 3) || (o == 7) || (o == 8)

abbrev from_bottom : ℕ → Bool
from_bottom o = (o == 3) || (o == 4) || (o == 6) || (o == 7)

-- a place that is counted from the front or from the back is one of them, and counted again it is the first
counted_below : (b : Bool) (n i : ℕ) → i < n → place_counted b n i < n
counted_below true n i h = omega (arith, h)
counted_below false n i h = h

counted_twice : (b : Bool) (n i : ℕ) → i < n → place_counted b n (place_counted b n i) ≡ i
counted_twice true n i h = omega (arith, h)
counted_twice false n i h = refl

-- of two facts the first, or where columns become rows the second
abbrev crossed : Bool → Bool → Bool → Bool
crossed turned own other = if turned then other else own

-- an orientation and the one that undoes it
same_turned : (o : ℕ) → is_turned (undoing o) ≡ is_turned o
same_turned o = grind (arith, nat_tests)

right_of : (o : ℕ) → from_right (undoing o) ≡ crossed (is_turned o) (from_right o) (from_bottom o)
right_of o = grind (arith, nat_tests)

bottom_of : (o : ℕ) → from_bottom (undoing o) ≡ crossed (is_turned o) (from_bottom o) (from_right o)
bottom_of o = grind (arith, nat_tests)

same_cell : (g : Grid ℤ) (a b x y : ℕ) → a ≡ x → b ≡ y → cell g a b ≡ cell g x y
same_cell g a b x y e f = rw (e, f) refl

module _ (coded shown : Grid ℤ) where
  Shows : Bool → Bool → Bool → Grid ℤ → Grid ℤ → Type 0
  Shows turned right bottom from to = (x y : ℕ) → x < to.width → y < to.height → cell to x y
      ≡ cell from (place_counted right from.width (if turned then y else x)) (place_counted bottom from.height (if turned then x else y))

  shown_back : (turned right bottom : Bool) → shown.width ≡ (if turned then coded.height else coded.width) → shown.height ≡ (if turned then coded.width else coded.height) →
      Shows turned right bottom coded shown → Shows turned (crossed turned right bottom) (crossed turned bottom right) shown coded
  unfolding Shows
  shown_back true right bottom wide high cells x y h k =
      let column : place_counted bottom shown.width y < shown.width = rw wide (counted_below bottom coded.height y k) in
      let row : place_counted right shown.height x < shown.height = rw high (counted_below right coded.width x h) in
      let is_column : place_counted right coded.width (place_counted right shown.height x) ≡ x = rw high (counted_twice right coded.width x h) in
      let is_row : place_counted bottom coded.height (place_counted bottom shown.width y) ≡ y = rw wide (counted_twice bottom coded.height y k) in
      sym (cells (place_counted bottom shown.width y) (place_counted right shown.height x) column row ∙ same_cell coded _ _ x y is_column is_row)
  shown_back false right bottom wide high cells x y h k =
      let column : place_counted right shown.width x < shown.width = rw wide (counted_below right coded.width x h) in
      let row : place_counted bottom shown.height y < shown.height = rw high (counted_below bottom coded.height y k) in
      let is_column : place_counted right coded.width (place_counted right shown.width x) ≡ x = rw wide (counted_twice right coded.width x h) in
      let is_row : place_counted bottom coded.height (place_counted bottom shown.height y) ≡ y = rw high (counted_twice bottom coded.height y k) in
      sym (cells (place_counted right shown.width x) (place_counted bottom shown.height y) column row ∙ same_cell coded _ _ x y is_column is_row)

  by_same : (t t' r r' b b' : Bool) → t ≡ t' → r ≡ r' → b ≡ b' → Shows t' r' b' shown coded → Shows t r b shown coded
  by_same t t' r r' b b' e f g all = rw (e, f, g) all

  back_width : (t t' : Bool) → t' ≡ t → shown.width ≡ (if t then coded.height else coded.width) → shown.height ≡ (if t then coded.width else coded.height) →
      (coded.width ≡ (if t' then shown.height else shown.width)) × (coded.height ≡ (if t' then shown.width else shown.height))
  back_width true t' e wide high = rw e (sym high, sym wide)
  back_width false t' e wide high = rw e (sym wide, sym high)

  pub undone : (o : ℕ) → IsOriented o coded shown → IsOriented (undoing o) shown coded
  unfolding Shows
  undone o s =
      let sides = back_width (is_turned o) (is_turned (undoing o)) (same_turned o) s.wide s.high in
      record {
        wide = sides.0;
        high = sides.1;
        cells = by_same (is_turned (undoing o)) (is_turned o) (from_right (undoing o)) (crossed (is_turned o) (from_right o) (from_bottom o)) (from_bottom (undoing o)) (crossed (is_turned o) (from_bottom o) (from_right o))
            (same_turned o) (right_of o) (bottom_of o) (shown_back (is_turned o) (from_right o) (from_bottom o) s.wide s.high s.cells);
      }
