-- What slots in memory hold.
use Rattle.std.specs.Prelude.{ℤ, List, map, Option}
use Rattle.std.specs.Global.{Vec}
use Rattle.std.specs.Float.{Float}
use Rattle.std.specs.Option.{option_map}
use Rattle.jxlm_base.specs.Grid.{Grid}
use Rattle.jxl_blending.specs.SingleGrids.{singles_of}
use Rattle.jxl_blending.specs.declared.singles.Singles.{Singles}
use Rattle.jxl_image_header.specs.declared.size.Size.{Size}
use Rattle.jxl_patches.specs.Slots.{Saved, Slots, frames_of, sizes_of}
use Rattle.jxl_patches.specs.declared.slots.SavedFrame.{SavedFrame}
use Rattle.jxl_patches.specs.declared.slots.SavedFrames.{SavedFrames}

-- what the channels of a frame that was blended stood for
abbrev pub singles_in : Option (Vec Singles) → Option (List (Grid Float))
singles_in singles = option_map (λ v. map singles_of v.items) singles

abbrev pub saved_of : SavedFrame → Saved
saved_of f = record { size = f.size; channels = f.channels.items; singles = singles_in f.singles }

abbrev pub slots_of : SavedFrames → Slots
slots_of s = map (option_map saved_of) s.slots

-- how large these frames are, and their channels
abbrev pub sizes_in : SavedFrames → List (Option Size)
sizes_in s = sizes_of (slots_of s)

abbrev pub frames_in : SavedFrames → List (List (Grid ℤ))
frames_in s = frames_of (slots_of s)
