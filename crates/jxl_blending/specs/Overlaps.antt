-- Where a frame lies over the picture, and what it makes of it (ISO/IEC 18181-1, frame header: crop).
use Rattle.std.specs.Prelude.{◌≡◌, ℕ, ◌+◌, ◌<◌, ◌≤◌, ℤ, pos, ◌+ℤ◌}
use Rattle.jxlm_base.specs.Grid.{Grid, IsFull, at}
use Rattle.std.specs.Float.{Float}
use Rattle.jxl_blending.specs.Blends.{blended_value, parts_of}
use Rattle.jxl_blending.specs.Scales.{shown}
use Rattle.jxl_blending.specs.SingleGrids.{value_at}
use Rattle.jxl_blending.specs.declared.blending.ChannelBlending.{ChannelBlending}
use Rattle.jxl_blending.specs.declared.blending.Parts.{Parts}
use Rattle.jxl_blending.specs.declared.blending.Point.{Point}
use Rattle.jxl_blending.specs.declared.overlap.Overlap.{Overlap}
use Rattle.jxl_blending.specs.declared.scale.Scale.{Scale}

-- column i of a frame that begins at column `start` of the picture lies on column x of the picture; the same for rows
abbrev pub LiesOn : ℤ → ℕ → ℕ → Type 0
LiesOn start i x = pos x ≡ start +ℤ pos i

-- these are all columns of a picture of this width on which columns of a frame of this width lie
pub record IsOverlap (start : ℤ) (front back : ℕ) (o : Overlap) : Type 0 where
  pub in_front : 0 < o.count → o.front + o.count ≤ front
  pub in_back : 0 < o.count → o.back + o.count ≤ back
  pub lies : (k : ℕ) → k < o.count → LiesOn start (o.front + k) (o.back + k)
  pub all : (i x : ℕ) → i < front → x < back → LiesOn start i x → (k : ℕ) × (k < o.count) × (x ≡ o.back + k)

-- a sample with an alpha
abbrev pub point : Grid ℤ → Grid ℤ → ℕ → ℕ → Point
point samples alpha x y = record { sample = at samples x y; alpha = at alpha x y }

-- a value with an alpha
abbrev pub parts : Grid Float → Grid Float → ℕ → ℕ → Parts
parts values alpha x y = record { sample = value_at values x y; alpha = value_at alpha x y }

-- A frame's channel was blended into that of the picture, from column x0 of row y0 on, which may be negative: each value that
-- the frame covers is what the frame's sample and the picture's value make, with the alpha of both; the others are as they were.
pub record IsBlended (b : ChannelBlending) (x0 y0 : ℤ) (front front_alpha : Grid ℤ) (back_alpha old new : Grid Float) : Type 0 where
  pub width : new.width ≡ old.width
  pub height : new.height ≡ old.height
  pub full : IsFull new
  pub inside : (i j x y : ℕ) → i < front.width → j < front.height → x < old.width → y < old.height → LiesOn x0 i x → LiesOn y0 j y →
      value_at new x y ≡ blended_value b (parts_of b (point front front_alpha i j)) (parts old back_alpha x y)
  pub outside : (x y : ℕ) → x < old.width → y < old.height →
      ((i j : ℕ) → i < front.width → j < front.height → LiesOn x0 i x → LiesOn y0 j y → ⊥) → value_at new x y ≡ value_at old x y

-- The samples of a picture that are nearest to values were written, where a frame of these sides lies on it from column x0 of row
-- y0 on, which may be negative; the others are as they were.
pub record IsShownUnder (scale : Scale) (x0 y0 : ℤ) (width height : ℕ) (values : Grid Float) (old new : Grid ℤ) : Type 0 where
  pub new_width : new.width ≡ old.width
  pub new_height : new.height ≡ old.height
  pub inside : (i j x y : ℕ) → i < width → j < height → x < old.width → y < old.height → LiesOn x0 i x → LiesOn y0 j y →
      at new x y ≡ shown scale (value_at values x y)
  pub outside : (x y : ℕ) → x < old.width → y < old.height →
      ((i j : ℕ) → i < width → j < height → LiesOn x0 i x → LiesOn y0 j y → ⊥) → at new x y ≡ at old x y

-- grids have the same sides
pub record SameSides {S T : Type 0} (a : Grid S) (b : Grid T) : Type 0 where
  pub width : a.width ≡ b.width
  pub height : a.height ≡ b.height
