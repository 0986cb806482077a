-- Which text is that of an image, and which line of another one is the first that is wrong.
use Rattle.std.specs.Prelude.{◌≡◌, ◌≢◌, ◌⊎◌, ℕ, ◌+◌, ◌<◌, ◌≤◌, ◌^◌, ℤ, FitsSigned, List, [], ◌++◌, length}
use Rattle.std.specs.List.{All, sum_by}
use Rattle.std.specs.Int.{Width}
use Rattle.jxlm_base.specs.Grid.{Grid, IsFull}
use Rattle.jxl_text.specs.Printing.{line, heading, row_text, rows_text, image_text}
use Rattle.jxl_text.specs.declared.reading.TextError.{TextError}
use Rattle.jxl_text.specs.declared.reading.TextError.TheVariants.{Line, OutOfMemory}

-- a channel of this number may have these sides
pub record IsNamed (number width height : ℕ) : Type 0 where
  pub count : number < 2 ^ 20
  pub wide : width ≤ 2 ^ 30
  pub high : height ≤ 2 ^ 30

-- the numbers of a channel: one for each cell, and each fits the width
pub record AreNumbers (w : Width) (g : Grid ℤ) : Type 0 where
  pub full : IsFull g
  pub fit : All (FitsSigned w) g.cells

-- an image of at most 2^20 channels, whose sides are at most 2^30 and whose numbers fit the width
pub record IsImage (w : Width) (channels : List (Grid ℤ)) : Type 0 where
  pub count : length channels ≤ 2 ^ 20
  pub sides : All (λ g. (g.width ≤ 2 ^ 30) × (g.height ≤ 2 ^ 30)) channels
  pub numbers : All (AreNumbers w) channels

-- the text is that of the image
pub record IsTextOf (w : Width) (text : List ℕ) (channels : List (Grid ℤ)) : Type 0 where
  pub image : IsImage w channels
  pub printed : text ≡ image_text channels

-- how many lines channels have: each its name and its rows
abbrev pub line_count : List (Grid ℤ) → ℕ
line_count channels = sum_by (λ g. g.height + 1) channels

-- the text begins with no line that may name the channel of this number
abbrev pub HasNoName : ℕ → List ℕ → Type 0
HasNoName number text = (width height : ℕ) (after : List ℕ) → IsNamed number width height → text ≢ heading number width height ++ after

-- it begins with no line of this number of numbers of this width
abbrev pub HasNoRow : Width → ℕ → List ℕ → Type 0
HasNoRow w count text = (numbers : List ℤ) (after : List ℕ) → length numbers ≡ count → All (FitsSigned w) numbers → text ≢ line (row_text numbers) ++ after

-- the text of rows of this number of numbers begins with these rows, and then comes none of them
pub record AreRowsWrong (w : Width) (width : ℕ) (text : List ℕ) (rows : Grid ℤ) : Type 0 where
  pub wide : rows.width ≡ width
  pub numbers : AreNumbers w rows
  pub rest : List ℕ
  pub begun : text ≡ rows_text rows rows.height ++ rest
  pub wrong : HasNoRow w width rest

-- the text begins with the name of the channel of this number, and with this number of its rows, and then a row is wrong
pub record IsRowWrong (w : Width) (number : ℕ) (text : List ℕ) (y : ℕ) : Type 0 where
  pub width : ℕ
  pub height : ℕ
  pub after : List ℕ
  pub named : IsNamed number width height
  pub begun : text ≡ heading number width height ++ after
  pub rows : Grid ℤ
  pub above : y ≡ rows.height
  pub within : y < height
  pub wrong : AreRowsWrong w width after rows

-- of the lines of the channel of this number, the one of number n, from 1 on, is the first that is wrong or missing
abbrev pub IsLineWrong : Width → ℕ → List ℕ → ℕ → Type 0
IsLineWrong w number text n = ((n ≡ 1) × HasNoName number text) ⊎ ((y : ℕ) × (n ≡ y + 2) × IsRowWrong w number text y)

-- whole channels come first, and some text after them; of the next channel a line is wrong or missing: the line of number n
pub record IsFirstWrong (w : Width) (text : List ℕ) (n : ℕ) : Type 0 where
  pub channels : List (Grid ℤ)
  pub rest : List ℕ
  pub image : IsImage w channels
  pub begun : text ≡ image_text channels ++ rest
  pub more : rest ≢ []
  pub line : ℕ
  pub number : n ≡ line_count channels + line
  pub wrong : IsLineWrong w (length channels) rest line

-- the text is that of no image, by this error; it may be out of memory at any time
abbrev pub TextFails : Width → List ℕ → TextError → Type 0
TextFails w text (Line n) = IsFirstWrong w text n
TextFails w text OutOfMemory = Unit {0}
