-- What rows are read from lines.
use Rattle.std.specs.Prelude.{◌≡◌, ◌≢◌, ℕ, ◌+◌, ◌*◌, ◌<◌, ◌≤◌, ℤ, FitsSigned, List, ◌++◌, length, map, Bool, true, false}
use Rattle.std.specs.List.{All}
use Rattle.std.specs.Int.{Width}
use Rattle.jxlm_base.specs.Grid.{Grid, grid, meanings}
use Rattle.jxl_text.specs.Printing.{row_text, rows_text, channel_text}
use Rattle.jxl_text.specs.Reading.{AreNumbers, AreRowsWrong, IsNamed, IsLineWrong}
use Rattle.jxl_text.specs.declared.reading.TextError.{TextError}
use Rattle.jxl_text.specs.declared.reading.TextError.TheVariants.{Line, OutOfMemory}

-- the line is no row of this number of numbers
abbrev pub IsNoRow : Width → ℕ → List ℕ → Type 0
IsNoRow w width line = (numbers : List ℤ) → length numbers ≡ width → All (FitsSigned w) numbers → line ≢ row_text numbers

module _ {S : Type 0} (to_int : S → ℤ) (w : Width) where
  -- the line is the row of these cells
  pub record IsRow (width : ℕ) (line : List ℕ) (cells : List S) : Type 0 where
    pub count : length cells ≡ width
    pub fit : All (λ s. FitsSigned w (to_int s)) cells
    pub printed : line ≡ row_text (map to_int cells)

  -- what is read of a line: whether it is a row, and then its cells come after those that are there
  abbrev pub RowGives : ℕ → List ℕ → List S → List S → Bool → Type 0
  RowGives width line old new true = (cells : List S) × (new ≡ old ++ cells) × IsRow width line cells
  RowGives width line old new false = IsNoRow w width line

  -- the text begins with these rows, and the rest comes after them
  pub record AreRows (width height : ℕ) (text rest : List ℕ) (cells : List S) : Type 0 where
    pub count : length cells ≡ width * height
    pub fit : All (λ s. FitsSigned w (to_int s)) cells
    pub begun : text ≡ rows_text (meanings to_int (grid width height cells)) height ++ rest

  -- the text begins with the channel of this number, and the rest comes after it
  pub record IsChannel (number : ℕ) (text rest : List ℕ) (g : Grid S) : Type 0 where
    pub named : IsNamed number g.width g.height
    pub numbers : AreNumbers w (meanings to_int g)
    pub begun : text ≡ channel_text number (meanings to_int g) ++ rest

-- where rows cannot be read, a line after this number of is the first that is wrong, or it is out of memory
abbrev pub RowsFail : Width → ℕ → ℕ → List ℕ → ℕ → TextError → Type 0
RowsFail w width height text taken (Line n) = (rows : Grid ℤ) × (n ≡ taken + rows.height + 1) × (rows.height < height) × AreRowsWrong w width text rows
RowsFail w width height text taken OutOfMemory = Unit {0}

-- the same for a channel
abbrev pub ChannelFails : Width → ℕ → List ℕ → ℕ → TextError → Type 0
ChannelFails w number text taken (Line n) = (m : ℕ) × (n ≡ taken + m) × IsLineWrong w number text m
ChannelFails w number text taken OutOfMemory = Unit {0}
