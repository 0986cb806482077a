-- Rows of three channels, coded cell by cell (ISO/IEC 18181-1, Modular: reversible colour transforms).
use Rattle.std.specs.Prelude.{◌≡◌, ℕ, ◌<◌, ℤ, List, length}
use Rattle.std.specs.Int.{Width}
use Rattle.jxlm_lanes.specs.Colour.{Triple, triple}
use Rattle.jxlm_lanes.specs.Squeeze.{AreSamples}
use Rattle.jxlm_encode_transform.specs.Inner.Lines.{number_in}

module _ {S : Type 0} where
  -- each of five rows has n samples
  pub record HaveOneLength (n : ℕ) (y z a b c : List S) : Type 0 where
    pub second : length y ≡ n
    pub third : length z ≡ n
    pub first_coded : length a ≡ n
    pub second_coded : length b ≡ n
    pub third_coded : length c ≡ n

  module _ (to_int : S → ℤ) where
    -- the numbers of cell i of three rows
    abbrev pub triple_in : List S → List S → List S → ℕ → Triple
    triple_in x y z i = triple (number_in to_int x i) (number_in to_int y i) (number_in to_int z i)

    -- the first n cells of a, b and c are those of x, y and z, coded
    abbrev pub AreCoded : (Triple → Triple) → List S → List S → List S → List S → List S → List S → ℕ → Type 0
    AreCoded code x y z a b c n = (i : ℕ) → i < n → triple_in a b c i ≡ code (triple_in x y z i)

    -- the first n samples of each of three rows fit the width
    pub record AreSampleRows (w : Width) (x y z : List S) (n : ℕ) : Type 0 where
      pub first : AreSamples w n (number_in to_int x)
      pub second : AreSamples w n (number_in to_int y)
      pub third : AreSamples w n (number_in to_int z)
