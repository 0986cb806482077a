-- Numbers as decimal digits write them.
use Rattle.std.specs.Prelude.{◌≡◌, ℕ, ◌+◌, ◌-◌, ◌*◌, ◌^◌, ◌<◌, List, [], ◌∷◌, length, slice_index, EachIndex}
use Rattle.std.specs.Int.{IsInRange}

-- one digit from 0 to 9 or more, and nothing else
abbrev pub IsDecimal : List ℕ → Type 0
IsDecimal text = (0 < length text) × EachIndex text (λ k. IsInRange 48 57 (slice_index text k))

-- what digits write together: the sum of each digit times ten to the power of how many digits come after it
abbrev pub decimal_value : List ℕ → ℕ
decimal_value [] = 0
decimal_value (c ∷ cs) = (c - 48) * 10 ^ length cs + decimal_value cs

-- the text is a number that fits 32 bits, and this is the number
pub record Writes (text : List ℕ) (number : ℕ) : Type 0 where
  pub digits : IsDecimal text
  pub value : decimal_value text ≡ number
  pub fits : number < 2 ^ 32
