-- Rows and channels while patches are put into them.
use Rattle.std.specs.Prelude.{◌≡◌, ◌⊎◌, ℕ, ◌+◌, ◌-◌, ◌*◌, ◌<◌, ◌≤◌, Bool, if◌then◌else◌, List, [], length, get_or, ℤ, pos}
use Rattle.jxlm_base.specs.Grid.{Grid, at, grid}
use Rattle.jxl_blending.specs.declared.blending.ChannelBlending.{ChannelBlending}
use Rattle.jxl_image_header.specs.Images.{Image}
use Rattle.jxl_patches.specs.Dictionaries.{place_at}
use Rattle.jxl_patches.specs.Patches.{Patches}
use Rattle.jxl_patches.specs.Patched.{Patching, PlaceFits, alpha_of, channel_of, covers, kinds_of, layered_sample, mixed_sample, mode_at, pixel, pixel_put}
use Rattle.jxl_patches.specs.declared.dictionary.Place.{Place}
use Rattle.jxl_patches.specs.declared.dictionary.PatchMode.{PatchMode}

-- n samples of a row, from one on, were mixed: sample i of them by f; the others are as they were
pub record IsRowMixed (f : ℕ → ℤ → ℤ) (start n : ℕ) (old new : List ℤ) : Type 0 where
  pub same : length new ≡ length old
  pub inside : (i : ℕ) → i < n → get_or new (start + i) (pos 0) ≡ f i (get_or old (start + i) (pos 0))
  pub outside : (i : ℕ) → (i < start) ⊎ (start + n ≤ i) → get_or new i (pos 0) ≡ get_or old i (pos 0)

-- what a mode makes of sample i of a row of a patch and one of a frame, each with the alpha of these rows
abbrev pub mixed_row : Image → ℕ → PatchMode → ℕ → List ℤ → List ℤ → List ℤ → ℕ → ℤ → ℤ
mixed_row image colours mode c from from_alpha alpha i v =
    mixed_sample image colours mode c (record { sample = get_or from i (pos 0); alpha = get_or from_alpha i (pos 0) }) (record { sample = v; alpha = get_or alpha i (pos 0) })

-- what a blending makes of them
abbrev pub layered_row : ChannelBlending → Bool → List ℤ → List ℤ → List ℤ → ℕ → ℤ → ℤ
layered_row blending below from from_alpha alpha i v =
    layered_sample blending below (record { sample = get_or from i (pos 0); alpha = get_or from_alpha i (pos 0) }) (record { sample = v; alpha = get_or alpha i (pos 0) })

-- the first n rows of a place
abbrev pub top_rows : Place → ℕ → Place
top_rows p n = record { source = record { slot = p.source.slot; x0 = p.source.x0; y0 = p.source.y0; width = p.source.width; height = n }; x = p.x; y = p.y }

-- what a place makes of a sample in column x of row y, if f mixes the sample in column i of row j of its rectangle with it
abbrev pub sample_put : (ℕ → ℕ → ℤ → ℤ) → Place → ℕ → ℕ → ℤ → ℤ
sample_put f p x y v = if covers p x y then f (x - p.x) (y - p.y) v else v

-- a place was put into a grid
pub record IsPut (f : ℕ → ℕ → ℤ → ℤ) (p : Place) (old new : Grid ℤ) : Type 0 where
  pub width : new.width ≡ old.width
  pub height : new.height ≡ old.height
  pub each : (x y : ℕ) → x < old.width → y < old.height → at new x y ≡ sample_put f p x y (at old x y)

-- what a mode makes of the sample in column i of row j of a place's rectangle and one of a frame, with the alpha of these grids: the
-- second has the rectangle's sides
abbrev pub mixed_cell : Image → ℕ → PatchMode → ℕ → Place → Grid ℤ → Grid ℤ → Grid ℤ → ℕ → ℕ → ℤ → ℤ
mixed_cell image colours mode c p source source_alpha alpha i j v =
    mixed_sample image colours mode c (record { sample = at source (p.source.x0 + i) (p.source.y0 + j); alpha = at source_alpha (p.source.x0 + i) (p.source.y0 + j) })
    (record { sample = v; alpha = at alpha i j })

-- the samples of a grid on which a place lies
pub record IsCovered (p : Place) (whole part : Grid ℤ) : Type 0 where
  pub width : part.width ≡ p.source.width
  pub height : part.height ≡ p.source.height
  pub each : (i j : ℕ) → i < p.source.width → j < p.source.height → at part i j ≡ at whole (p.x + i) (p.y + j)

-- of each channel
pub record AreCovered (p : Place) (grids parts : List (Grid ℤ)) : Type 0 where
  pub count : length parts ≡ length grids
  pub each : (c : ℕ) → c < length grids → IsCovered p (get_or grids c (grid 0 0 [])) (get_or parts c (grid 0 0 []))

-- place n can be put into channel c, where it covers these samples of each channel
pub record IsReadyChannel (frames : List (List (Grid ℤ))) (colours : ℕ) (patches : Patches) (n : ℕ) (parts : List (Grid ℤ)) (c : ℕ) (old : Grid ℤ) : Type 0 where
  pub place : n < length patches.places
  pub channel : c < length parts
  pub modes : length patches.modes ≡ length patches.places * kinds_of colours (length parts)
  pub slot : (place_at patches n).source.slot < length frames
  pub held : (k : ℕ) → k < length parts → k < length (get_or frames (place_at patches n).source.slot [])
  pub fits : (k : ℕ) → k < length parts → PlaceFits (place_at patches n) (channel_of frames (place_at patches n).source.slot k) old
  pub width : (k : ℕ) → k < length parts → (get_or parts k (grid 0 0 [])).width ≡ (place_at patches n).source.width
  pub height : (k : ℕ) → k < length parts → (get_or parts k (grid 0 0 [])).height ≡ (place_at patches n).source.height

-- place n was put into channel c, where it covers these samples of each channel
abbrev pub IsChannelMixed : Image → List (List (Grid ℤ)) → ℕ → Patches → ℕ → List (Grid ℤ) → ℕ → Grid ℤ → Grid ℤ → Type 0
IsChannelMixed image frames colours patches n parts c old new =
    let p : Place = place_at patches n in
    let mode : PatchMode = mode_at patches colours (length parts) n c in
    let alpha : ℕ = alpha_of colours (length parts) mode c in
    IsPut (mixed_cell image colours mode c p (channel_of frames p.source.slot c) (channel_of frames p.source.slot alpha) (get_or parts alpha (grid 0 0 []))) p old new

-- place n was put into a channel, whose frame had these channels before
pub record IsChannelPut (t : Patching) (n c : ℕ) (grids : List (Grid ℤ)) (old new : Grid ℤ) : Type 0 where
  pub width : new.width ≡ old.width
  pub height : new.height ≡ old.height
  pub each : (x y : ℕ) → x < old.width → y < old.height → at new x y ≡ pixel_put t n x y (pixel grids x y) c

-- place n was put into all channels
pub record ArePlacePut (t : Patching) (n : ℕ) (old new : List (Grid ℤ)) : Type 0 where
  pub count : length new ≡ length old
  pub each : (c : ℕ) → c < length old → IsChannelPut t n c old (get_or old c (grid 0 0 [])) (get_or new c (grid 0 0 []))
