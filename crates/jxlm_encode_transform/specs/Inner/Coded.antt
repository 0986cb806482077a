-- How far the colours of three regions are coded in place.
use Rattle.std.specs.Prelude.{◌≡◌, ℕ, ◌<◌, ◌≤◌, ℤ, List, [], ◌∷◌}
use Rattle.std.specs.Int.{Width}
use Rattle.jxlm_lanes.specs.Colour.{IsTripleOf, Triple, coded_triple, triple}
use Rattle.jxlm_base.specs.Grid.{Grid}
use Rattle.jxlm_base.specs.Outside.{KeepsOutside, row_of}
use Rattle.jxlm_base.specs.Regions.{Lies, AreApart}
use Rattle.jxlm_base.specs.declared.subgrid.Region.{Region}
use Rattle.jxlm_encode_transform.specs.Inner.Squeezed.{number_of}

-- three regions of one size in the store, no two of which share a cell
pub record AreThree {S : Type 0} (r s t : Region) (store : List (Grid S)) : Type 0 where
  pub first : Lies r store
  pub second : Lies s store
  pub third : Lies t store
  pub first_second : AreApart r s
  pub first_third : AreApart r t
  pub second_third : AreApart s t
  pub second_width : s.width ≡ r.width
  pub third_width : t.width ≡ r.width
  pub second_height : s.height ≡ r.height
  pub third_height : t.height ≡ r.height

module _ (r s t : Region) where
  -- row y of each of three regions
  abbrev pub rows_of : ℕ → List Region
  rows_of y = row_of r y ∷ row_of s y ∷ row_of t y ∷ []

  module _ {S : Type 0} (f : S → ℤ) where
    -- the numbers in column x of row y
    abbrev pub triple_of : List (Grid S) → ℕ → ℕ → Triple
    triple_of store x y = triple (number_of f r store x y) (number_of f s store x y) (number_of f t store x y)

    module _ (w : Width) (kind : ℕ) where
      -- row y is coded, and nothing else changed
      pub record CodesRow (y : ℕ) (old new : List (Grid S)) : Type 0 where
        pub samples : (x : ℕ) → x < r.width → IsTripleOf w (triple_of old x y)
        pub each : (x : ℕ) → x < r.width → triple_of new x y ≡ coded_triple w kind (triple_of old x y)
        pub keeps : KeepsOutside (rows_of y) old new

      -- the rows above n are coded, and nothing else changed
      pub record CodedUntil (n : ℕ) (old now : List (Grid S)) : Type 0 where
        pub samples : (x y : ℕ) → x < r.width → y < n → IsTripleOf w (triple_of old x y)
        pub each : (x y : ℕ) → x < r.width → y < n → triple_of now x y ≡ coded_triple w kind (triple_of old x y)
        pub rest : (x y : ℕ) → x < r.width → n ≤ y → y < r.height → triple_of now x y ≡ triple_of old x y
        pub keeps : KeepsOutside (r ∷ s ∷ t ∷ []) old now
