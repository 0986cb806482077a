-- Rows while a frame is blended into them.
use Rattle.std.specs.Prelude.{◌≡◌, ◌⊎◌, ℕ, ◌+◌, ◌<◌, ◌≤◌, List, length, get_or, ℤ, pos}
use Rattle.std.specs.Float.{Float, nan}
use Rattle.jxl_blending.specs.Blends.{blended_value, parts_of}
use Rattle.jxl_blending.specs.Scales.{shown}
use Rattle.jxl_blending.specs.declared.blending.ChannelBlending.{ChannelBlending}
use Rattle.jxl_blending.specs.declared.blending.Point.{Point}
use Rattle.jxl_blending.specs.declared.scale.Scale.{Scale}

-- sample i of a list, with its alpha
abbrev pub point_of : List ℤ → List ℤ → ℕ → Point
point_of samples alpha i = record { sample = get_or samples i (pos 0); alpha = get_or alpha i (pos 0) }

-- samples of a frame were blended into these values, from one on; the others are as they were
pub record IsRowBlended (b : ChannelBlending) (start : ℕ) (front front_alpha : List ℤ) (back_alpha old new : List Float) : Type 0 where
  pub same : length new ≡ length old
  pub inside : (i : ℕ) → i < length front → get_or new (start + i) nan
      ≡ blended_value b (parts_of b (point_of front front_alpha i)) (record { sample = get_or old (start + i) nan; alpha = get_or back_alpha (start + i) nan })
  pub outside : (i : ℕ) → (i < start) ⊎ (start + length front ≤ i) → get_or new i nan ≡ get_or old i nan

-- samples of a row that are nearest to these values were written, from one on; the others are as they were
pub record IsRowShown (scale : Scale) (values : List Float) (start : ℕ) (old new : List ℤ) : Type 0 where
  pub same : length new ≡ length old
  pub inside : (i : ℕ) → i < length values → get_or new (start + i) (pos 0) ≡ shown scale (get_or values i nan)
  pub outside : (i : ℕ) → (i < start) ⊎ (start + length values ≤ i) → get_or new i (pos 0) ≡ get_or old i (pos 0)
