-- Patches that were written (ISO/IEC 18181-1, frame: LF global, patches).
use Rattle.std.specs.Prelude.{◌≡◌, ℕ, ◌+◌, ◌*◌, ◌^◌, ◌<◌, ◌≤◌, List, length, replicate, Option, Ok}
use Rattle.std.specs.List.{sum_by}
use Rattle.jxl_coding.specs.Parse.{decoder_at}
use Rattle.jxl_coding.specs.Tokens.{entropy}
use Rattle.jxl_image_header.specs.declared.size.Size.{Size}
use Rattle.jxl_patches.specs.Dictionaries.{AreWithin, area}
use Rattle.jxl_patches.specs.Patches.{Patches, dictionary, most_rectangles}
use Rattle.jxl_patches.specs.declared.dictionary.Place.{Place}
use Rattle.jxl_patches.specs.declared.dictionary.PatchMode.TheVariants.{Add}

-- a place whose rectangle has cells, and whose coordinates are below 2 ^ 31
pub record IsWritable (p : Place) : Type 0 where
  pub columns : 0 < p.source.width
  pub rows : 0 < p.source.height
  pub x : p.x < 2 ^ 31
  pub y : p.y < 2 ^ 31

-- patches at these places of an image with this number of extra channels: all samples are added
abbrev pub added : ℕ → List Place → Patches
added extra places = record { places = places; modes = replicate (length places * (1 + extra)) Add }

-- A frame of this size, and slots that hold frames of these sizes, have room for patches: each lies in both, there are no more
-- than rectangles may be, and they put at most this number of cells.
pub record HaveRoom (size : Size) (extra : ℕ) (slots : List (Option Size)) (limit : ℕ) (patches : Patches) : Type 0 where
  pub within : AreWithin size extra slots patches
  pub few : length patches.places ≤ most_rectangles size
  pub cells : sum_by area patches.places ≤ limit

-- from bit p up to bit q stands the dictionary of these patches, in each frame and by slots that have room for them
abbrev pub ArePatchesAt : ℕ → Patches → List ℕ → ℕ → ℕ → Type 0
ArePatchesAt extra patches bytes p q = (size : Size) (slots : List (Option Size)) (limit : ℕ) → HaveRoom size extra slots limit patches →
    (dictionary (entropy decoder_at) size extra slots limit).read bytes p ≡ Ok (record { value = patches; position = q })
