-- How a picture is shown: as it was coded, mirrored or turned (ISO/IEC 18181-1, image header: orientation, as Exif numbers it).
use Rattle.std.specs.Prelude.{◌≡◌, ℕ, ◌-◌, ◌<◌, ◌==◌, ◌||◌, nat_lt, ℤ, List, Bool, if◌then◌else◌}
use Rattle.std.specs.List.{AllZip}
use Rattle.jxlm_base.specs.Grid.{Grid, cell}
use Rattle.jxl_image_header.specs.Images.{Image}
use Rattle.jxl_image_header.specs.declared.size.Size.{Size}

-- columns become rows: orientations 5 to 8
abbrev pub is_turned : ℕ → Bool
is_turned o = nat_lt 4 o

-- place i of n, counted from the front or from the back
abbrev pub place_counted : Bool → ℕ → ℕ → ℕ
place_counted back n i = if back then n - 1 - i else i

-- The second grid shows the cells of the first by this orientation: some count columns from the right, some rows from the bottom.
pub record IsOriented {S : Type 0} (o : ℕ) (coded shown : Grid S) : Type 0 where
  pub wide : shown.width ≡ (if is_turned o then coded.height else coded.width)
  pub high : shown.height ≡ (if is_turned o then coded.width else coded.height)
  pub cells : (x y : ℕ) → x < shown.width → y < shown.height → cell shown x y
      ≡ cell coded (place_counted ((o == 2) || (o == 3) || (o == 7) || (o == 8)) coded.width (if is_turned o then y else x))
      (place_counted ((o == 3) || (o == 4) || (o == 6) || (o == 7)) coded.height (if is_turned o then x else y))

-- the orientation that undoes this one
abbrev pub undoing : ℕ → ℕ
undoing o = if o == 6 then 8 else if o == 8 then 6 else o

-- What was shown by an orientation shows, by the one that undoes it, what was coded: so no cell is lost, or shown twice.
abbrev pub AreUndone : Type 0
AreUndone = (o : ℕ) (coded shown : Grid ℤ) → IsOriented o coded shown → IsOriented (undoing o) shown coded

-- the sides of a picture as it is shown
abbrev pub shown_size : ℕ → Size → Size
shown_size o size = if is_turned o then record { width = size.height; height = size.width } else size

-- The second picture is the first one, shown upright: its header with other sides and orientation 1, and each of its channels.
pub record IsUpright (coded : Image) (channels : List (Grid ℤ)) (shown : Image) (shown_channels : List (Grid ℤ)) : Type 0 where
  pub header : shown ≡ record coded { size = shown_size coded.orientation coded.size; orientation = 1 }
  pub oriented : AllZip (IsOriented coded.orientation) channels shown_channels
