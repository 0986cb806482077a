-- Palettes (ISO/IEC 18181-1, Modular: inverse palette, its implicit colours and its table of deltas).
use Rattle.std.specs.Prelude.{◌≡◌, ◌⊎◌, ℕ, zero, suc, ◌+◌, ◌-◌, ◌*◌, ◌/◌, ◌%◌, ◌^◌, ◌<◌, List, [], ◌∷◌, ◌++◌, length, take, map, get_or, nat_le, nat_lt, min, ◌==◌, ◌&&◌, not, if◌then◌else◌, ℤ, pos, negsuc, ◌+ℤ◌, ◌-ℤ◌, ◌*ℤ◌, neg_ℤ, int_lt}
use Rattle.std.specs.List.{All}
use Rattle.std.specs.Int.{Width, int_wrap}
use Rattle.jxlm_base.specs.Grid.{Grid, grid, at, place, below}
use Rattle.jxlm_base.specs.Regions.{Lies, AllLie, AreApart, LieApart}
use Rattle.jxlm_base.specs.declared.subgrid.Region.{Region}
use Rattle.jxlm_predictor.specs.Predictions.{prediction}
use Rattle.jxlm_transform.specs.Channels.{HasSides}
use Rattle.jxlm_transform.specs.declared.transform.Palette.{Palette}

-- minus n
abbrev pub down : ℕ → ℤ
down n = neg_ℤ (pos n)

abbrev pub of_three : ℤ → ℤ → ℤ → List ℤ
of_three a b c = a ∷ b ∷ c ∷ []

-- the differences that negative indices name, in pairs of opposite sign; each has three channels
unfoldable pub deltas : List (List ℤ)
deltas =
    of_three (pos 0) (pos 0) (pos 0) ∷ of_three (pos 4) (pos 4) (pos 4) ∷ of_three (pos 11) (pos 0) (pos 0) ∷ of_three (pos 0) (pos 0) (down 13) ∷
    of_three (pos 0) (down 12) (pos 0) ∷ of_three (down 10) (down 10) (down 10) ∷ of_three (down 18) (down 18) (down 18) ∷ of_three (down 27) (down 27) (down 27) ∷
    of_three (down 18) (down 18) (pos 0) ∷ of_three (pos 0) (pos 0) (down 32) ∷ of_three (down 32) (pos 0) (pos 0) ∷ of_three (down 37) (down 37) (down 37) ∷
    of_three (pos 0) (down 32) (down 32) ∷ of_three (pos 24) (pos 24) (pos 45) ∷ of_three (pos 50) (pos 50) (pos 50) ∷ of_three (down 45) (down 24) (down 24) ∷
    of_three (down 24) (down 45) (down 45) ∷ of_three (pos 0) (down 24) (down 24) ∷ of_three (down 34) (down 34) (pos 0) ∷ of_three (down 24) (pos 0) (down 24) ∷
    of_three (down 45) (down 45) (down 24) ∷ of_three (pos 64) (pos 64) (pos 64) ∷ of_three (down 32) (pos 0) (down 32) ∷ of_three (pos 0) (down 32) (pos 0) ∷
    of_three (down 32) (pos 0) (pos 32) ∷ of_three (down 24) (down 45) (down 24) ∷ of_three (pos 45) (pos 24) (pos 45) ∷ of_three (pos 24) (down 24) (down 45) ∷
    of_three (down 45) (down 24) (pos 24) ∷ of_three (pos 80) (pos 80) (pos 80) ∷ of_three (pos 64) (pos 0) (pos 0) ∷ of_three (pos 0) (pos 0) (down 64) ∷
    of_three (pos 0) (down 64) (down 64) ∷ of_three (down 24) (down 24) (pos 45) ∷ of_three (pos 96) (pos 96) (pos 96) ∷ of_three (pos 64) (pos 64) (pos 0) ∷
    of_three (pos 45) (down 24) (down 24) ∷ of_three (pos 34) (down 34) (pos 0) ∷ of_three (pos 112) (pos 112) (pos 112) ∷ of_three (pos 24) (down 45) (down 45) ∷
    of_three (pos 45) (pos 45) (down 24) ∷ of_three (pos 0) (down 32) (pos 32) ∷ of_three (pos 24) (down 24) (pos 45) ∷ of_three (pos 0) (pos 96) (pos 96) ∷
    of_three (pos 45) (down 24) (pos 24) ∷ of_three (pos 24) (down 45) (down 24) ∷ of_three (down 24) (down 45) (pos 24) ∷ of_three (pos 0) (down 64) (pos 0) ∷
    of_three (pos 96) (pos 0) (pos 0) ∷ of_three (pos 128) (pos 128) (pos 128) ∷ of_three (pos 64) (pos 0) (pos 64) ∷ of_three (pos 144) (pos 144) (pos 144) ∷
    of_three (pos 96) (pos 96) (pos 0) ∷ of_three (down 36) (down 36) (pos 36) ∷ of_three (pos 45) (down 24) (down 45) ∷ of_three (pos 45) (down 45) (down 24) ∷
    of_three (pos 0) (pos 0) (down 96) ∷ of_three (pos 0) (pos 128) (pos 128) ∷ of_three (pos 0) (pos 96) (pos 0) ∷ of_three (pos 45) (pos 24) (down 45) ∷
    of_three (down 128) (pos 0) (pos 0) ∷ of_three (pos 24) (down 45) (pos 24) ∷ of_three (down 45) (pos 24) (down 45) ∷ of_three (pos 64) (pos 0) (down 64) ∷
    of_three (pos 64) (down 64) (down 64) ∷ of_three (pos 96) (pos 0) (pos 96) ∷ of_three (pos 45) (down 45) (pos 24) ∷ of_three (pos 24) (pos 45) (down 45) ∷
    of_three (pos 64) (pos 64) (down 64) ∷ of_three (pos 128) (pos 128) (pos 0) ∷ of_three (pos 0) (pos 0) (down 128) ∷ of_three (down 24) (pos 45) (down 45) ∷ []

-- the difference of index -k - 1 in channel c at 8 bits a sample: repeated after 143, with either sign in turn
unfoldable pub listed_difference : ℕ → ℕ → ℤ
listed_difference k c =
    let i : ℕ = k % 143 in
    let d : ℤ = get_or (get_or deltas ((i + 1) / 2) []) c (pos 0) in
    if i % 2 == 0 then neg_ℤ d else d

-- implicit colour j in channel c, by a digit of j: 64 of 4 levels a channel, raised by an eighth, then others of 5
unfoldable pub implicit_colour : ℕ → ℕ → ℕ → ℕ
implicit_colour depth j c =
    let most : ℕ = 2 ^ depth - 1 in
    if nat_lt j 64 then (j / 4 ^ c % 4) * most / 4 + 2 ^ (depth - 3) else ((j - 64) / 5 ^ c % 5) * most / 4

-- colour j after the table in channel c: if implicit colours are of RGB alone, 0 from the fourth channel on
abbrev pub colour_after : ℕ → Palette → ℕ → ℕ → ℕ
colour_after depth t j c = if t.implicit_rgb && nat_le 3 c then 0 else implicit_colour depth j c

-- the colour of an index in channel c: of the table, implicit, or a difference, whose step grows with depths 8 to 24
unfoldable pub colour_of : ℕ → Palette → Grid ℤ → ℤ → ℕ → ℤ
colour_of depth t table (pos i) c = if nat_lt i t.nb_colours then at table i c else pos (colour_after depth t (i - t.nb_colours) c)
colour_of depth t table (negsuc k) c = listed_difference k c *ℤ pos (2 ^ (min depth 24 - 8))

-- The index whose colour is taken. If the palette clamps indices, it is the nearest one from 0 to nb_colours - 1, and 0
-- for a negative one, also if there are no colours.
unfoldable pub colour_index : Palette → ℤ → ℤ
colour_index t (pos i) = if t.clamps_indices && not (nat_lt i t.nb_colours) then pos t.nb_colours -ℤ pos 1 else pos i
colour_index t (negsuc k) = if t.clamps_indices then pos 0 else negsuc k

-- w bits a sample in memory, depth bits in the picture
module _ (w : Width) (depth : ℕ) (t : Palette) (table : Grid ℤ) where
  -- the sample of index i in channel c of this width, after these: its colour, and below nb_deltas the prediction added
  unfoldable pub finished_sample : ℤ → ℕ → List ℤ → ℕ → ℤ
  finished_sample i c before width =
      let j : ℤ = colour_index t i in
      let colour : ℤ = colour_of depth t table j c in
      int_wrap w (if int_lt j (pos t.nb_deltas) then colour +ℤ prediction t.wp_header before width t.d_pred else colour)

  -- the finished channels have the index channel's sides, and each cell the finished sample of its index, row by row
  pub record IsPaletteOf (index : Grid ℤ) (finished : List (Grid ℤ)) : Type 0 where
    pub count : length finished ≡ t.num_c
    pub sides : All (HasSides index.width index.height) finished
    pub samples : (c x y : ℕ) → c < t.num_c → x < index.width → y < index.height →
        let g : Grid ℤ = get_or finished c (grid 0 0 []) in
        at g x y ≡ finished_sample (at index x y) c (take (place g x y) g.cells) index.width

  -- the first n samples of finished channel c, one after another
  abbrev pub finished_samples : Grid ℤ → ℕ → ℕ → List ℤ
  finished_samples index c zero = []
  finished_samples index c (suc n) =
      let before : List ℤ = finished_samples index c n in
      before ++ finished_sample (get_or index.cells n (pos 0)) c before index.width ∷ []

  -- the channels that are finished so
  abbrev pub finished_channel : Grid ℤ → ℕ → Grid ℤ
  finished_channel index c = grid index.width index.height (finished_samples index c (index.width * index.height))

  abbrev pub finished_channels : Grid ℤ → List (Grid ℤ)
  finished_channels index = map (finished_channel index) (below t.num_c)

-- Where a palette is in a store: its table, the channel of its indices, and the channels that it becomes, which have
-- the sides of the index channel. No two of these share a cell, and none shares one with the table; the first may be
-- the index channel itself, and otherwise none shares a cell with that.
pub record PaletteLies {S : Type 0} (t : Palette) (table index : Region) (finished : List Region) (store : List (Grid S)) : Type 0 where
  pub table_lies : Lies table store
  pub index_lies : Lies index store
  pub finished_lie : AllLie finished store
  pub count : length finished ≡ t.num_c
  pub table_width : table.width ≡ t.nb_colours
  pub table_height : table.height ≡ t.num_c
  pub sizes : All (λ r. (r.width ≡ index.width) × (r.height ≡ index.height)) finished
  pub apart : LieApart finished
  pub table_apart : All (λ r. AreApart r table) finished
  pub index_apart : (get_or finished 0 index ≡ index) ⊎ All (λ r. AreApart r index) finished

-- A table and an index channel have one list of finished channels, and no other.
pub record PaletteHasOneImage : Type 0 where
  pub is : (w : Width) (depth : ℕ) (t : Palette) (table index : Grid ℤ) → IsPaletteOf w depth t table index (finished_channels w depth t table index)
  pub only : (w : Width) (depth : ℕ) (t : Palette) (table index : Grid ℤ) (finished : List (Grid ℤ)) → IsPaletteOf w depth t table index finished → finished ≡ finished_channels w depth t table index
