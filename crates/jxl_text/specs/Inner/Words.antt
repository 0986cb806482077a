-- What a word writes.
use Rattle.std.specs.Prelude.{◌≡◌, ◌≢◌, ℕ, ◌<◌, ◌≤◌, ◌^◌, ℤ, FitsSigned, List, ◌∷◌, ◌++◌, codes}
use Rattle.std.specs.Fmt.{decimal, signed_decimal}
use Rattle.std.specs.Int.{Width}
use Rattle.jxl_text.specs.Printing.{name}
use Rattle.jxl_text.specs.Reading.{IsNamed}

-- no number of 32 bits is written so
abbrev pub WritesNoNumber : List ℕ → Type 0
WritesNoNumber word = (n : ℕ) → n < 2 ^ 32 → word ≢ decimal n

-- no number of this width is written so
abbrev pub WritesNoSample : Width → List ℕ → Type 0
WritesNoSample w word = (z : ℤ) → FitsSigned w z → word ≢ signed_decimal z

-- the word writes the number, which fits the width
pub record WritesSample (w : Width) (word : List ℕ) (z : ℤ) : Type 0 where
  pub written : word ≡ signed_decimal z
  pub fits : FitsSigned w z

-- the text gives no size of a channel
abbrev pub IsNoSize : List ℕ → Type 0
IsNoSize text = (width height : ℕ) → width ≤ 2 ^ 30 → height ≤ 2 ^ 30 → text ≢ decimal width ++ 120 ∷ decimal height

-- it gives this size
pub record IsSize (text : List ℕ) (width height : ℕ) : Type 0 where
  pub wide : width ≤ 2 ^ 30
  pub high : height ≤ 2 ^ 30
  pub is : text ≡ decimal width ++ 120 ∷ decimal height

-- the line does not begin with the word for a channel
abbrev pub IsOfNoChannel : List ℕ → Type 0
IsOfNoChannel line = (rest : List ℕ) → line ≢ codes "channel" ++ 32 ∷ rest

-- the text names no channel of this number
abbrev pub NamesNone : ℕ → List ℕ → Type 0
NamesNone number text = (width height : ℕ) → IsNamed number width height → text ≢ name number width height

-- it names the channel of this number and this size
pub record Names (number : ℕ) (text : List ℕ) (width height : ℕ) : Type 0 where
  pub named : IsNamed number width height
  pub is : text ≡ name number width height
