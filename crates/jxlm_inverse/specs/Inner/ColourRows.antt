-- How far the colour of three regions is undone, row by row.
use Rattle.std.specs.Prelude.{◌≡◌, ℕ, ◌+◌, ◌<◌, ◌≤◌, List, [], ◌∷◌, ℤ}
use Rattle.std.specs.Int.{Width}
use Rattle.jxlm_lanes.specs.Colour.{Triple, triple, IsTripleOf, permute, finished_by}
use Rattle.jxlm_base.specs.Grid.{Grid, at}
use Rattle.jxlm_base.specs.Outside.{KeepsOutside, row_of}
use Rattle.jxlm_base.specs.Regions.{buffer_of, store_meanings, Lies, AreApart}
use Rattle.jxlm_base.specs.declared.subgrid.Region.{Region}

-- three regions of one size in the store, no two of which share a cell
pub record AreThree {S : Type 0} (r s t : Region) (store : List (Grid S)) : Type 0 where
  pub first : Lies r store
  pub second : Lies s store
  pub third : Lies t store
  pub first_second : AreApart r s
  pub first_third : AreApart r t
  pub second_third : AreApart s t
  pub second_width : s.width ≡ r.width
  pub third_width : t.width ≡ r.width
  pub second_height : s.height ≡ r.height
  pub third_height : t.height ≡ r.height

module _ (r s t : Region) where
  -- the numbers in column x of row y of three regions
  abbrev pub triple_of : List (Grid ℤ) → ℕ → ℕ → Triple
  triple_of store x y =
      triple (at (buffer_of store r) (r.x + x) (r.y + y)) (at (buffer_of store s) (s.x + x) (s.y + y)) (at (buffer_of store t) (t.x + x) (t.y + y))

  -- row y of each
  abbrev pub rows_of : ℕ → List Region
  rows_of y = row_of r y ∷ row_of s y ∷ row_of t y ∷ []

  module _ {S : Type 0} (f : S → ℤ) where
    -- row y has these triples now, and nothing else changed
    pub record PutsRow (y : ℕ) (triples : ℕ → Triple) (old new : List (Grid S)) : Type 0 where
      pub each : (x : ℕ) → x < r.width → triple_of (store_meanings f new) x y ≡ triples x
      pub keeps : KeepsOutside (rows_of y) old new

    module _ (w : Width) (ty order : ℕ) where
      -- row y is finished, and nothing else changed
      pub record FinishesRow (y : ℕ) (old new : List (Grid S)) : Type 0 where
        pub fits : (x : ℕ) → x < r.width → IsTripleOf w (triple_of (store_meanings f old) x y)
        pub puts : PutsRow y (λ x. permute order (finished_by w ty (triple_of (store_meanings f old) x y))) old new

      -- the rows above n are finished, and nothing else changed
      pub record FinishedUntil (n : ℕ) (old now : List (Grid S)) : Type 0 where
        pub fits : (x y : ℕ) → x < r.width → y < n → IsTripleOf w (triple_of (store_meanings f old) x y)
        pub each : (x y : ℕ) → x < r.width → y < n → triple_of (store_meanings f now) x y ≡ permute order (finished_by w ty (triple_of (store_meanings f old) x y))
        pub rest : (x y : ℕ) → x < r.width → n ≤ y → y < r.height → triple_of (store_meanings f now) x y ≡ triple_of (store_meanings f old) x y
        pub keeps : KeepsOutside (r ∷ s ∷ t ∷ []) old now
