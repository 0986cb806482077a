-- An image as it is printed.
use Rattle.std.specs.Prelude.{ℕ, ℤ, List, [], ◌∷◌, ◌++◌, map, codes}
use Rattle.std.specs.List.{join_with_byte, flat_map, range_with_len, enumerate_from}
use Rattle.std.specs.Fmt.{decimal, signed_decimal}
use Rattle.jxlm_base.specs.Grid.{Grid, row}

-- the text, and the end of its line
abbrev pub line : List ℕ → List ℕ
line text = text ++ 10 ∷ []

-- the numbers of a row in decimal digits, with a space between each two
abbrev pub row_text : List ℤ → List ℕ
row_text numbers = join_with_byte 32 (map signed_decimal numbers)

-- what names a channel: its number and its size
abbrev pub name : ℕ → ℕ → ℕ → List ℕ
name number width height = codes "channel " ++ decimal number ++ codes " " ++ decimal width ++ codes "x" ++ decimal height

-- the line that does
abbrev pub heading : ℕ → ℕ → ℕ → List ℕ
heading number width height = line (name number width height)

-- the first n rows of a channel, a line for each
abbrev pub rows_text : Grid ℤ → ℕ → List ℕ
rows_text g n = flat_map (λ y. line (row_text (row g y))) (range_with_len 0 n)

-- the channel of this number: its name, and then its rows
abbrev pub channel_text : ℕ → Grid ℤ → List ℕ
channel_text number g = heading number g.width g.height ++ rows_text g g.height

-- the channels of an image, which are numbered from 0
abbrev pub image_text : List (Grid ℤ) → List ℕ
image_text channels = flat_map (λ c. channel_text c.0 c.1) (enumerate_from 0 channels)
