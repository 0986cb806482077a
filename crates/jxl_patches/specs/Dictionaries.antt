-- A dictionary in memory, as patches, and what is true of those that were read.
use Rattle.std.specs.Prelude.{◌≡◌, ℕ, ◌+◌, ◌*◌, ◌<◌, ◌≤◌, List, length, get_or, Option, Some, None}
use Rattle.jxl_image_header.specs.declared.size.Size.{Size}
use Rattle.jxl_patches.specs.Patches.{Patches, nowhere}
use Rattle.jxl_patches.specs.declared.dictionary.Dictionary.{Dictionary}
use Rattle.jxl_patches.specs.declared.dictionary.Place.{Place}

abbrev pub patches_of : Dictionary → Patches
patches_of d = record { places = d.places.items; modes = d.modes.items }

-- place n, and one that covers no cell where there are fewer
abbrev pub place_at : Patches → ℕ → Place
place_at patches n = get_or patches.places n nowhere

-- how many cells a place puts
abbrev pub area : Place → ℕ
area p = p.source.width * p.source.height

-- A rectangle lies in the frame that its slot holds, and its place in a frame of this size.
pub record IsWithin (size : Size) (slots : List (Option Size)) (p : Place) : Type 0 where
  pub frame : Size
  pub held : get_or slots p.source.slot None ≡ Some frame
  pub source_columns : p.source.x0 + p.source.width ≤ frame.width
  pub source_rows : p.source.y0 + p.source.height ≤ frame.height
  pub columns : p.x + p.source.width ≤ size.width
  pub rows : p.y + p.source.height ≤ size.height

-- All places do, and each has one mode for the colours, and one for each extra channel.
pub record AreWithin (size : Size) (extra : ℕ) (slots : List (Option Size)) (patches : Patches) : Type 0 where
  pub modes : length patches.modes ≡ length patches.places * (1 + extra)
  pub each : (n : ℕ) → n < length patches.places → IsWithin size slots (place_at patches n)
