-- What the four slots hold, and the patches that a frame has of it (ISO/IEC 18181-1, frame: saving, patches).
use Rattle.std.specs.Prelude.{◌≡◌, ℕ, ◌+◌, ◌*◌, ℤ, List, [], length, get_or, slice_get, map, replicate, set, Bool, Option, Some, None, option_and_then}
use Rattle.std.specs.Option.{option_map, option_map_or}
use Rattle.std.specs.Float.{Float}
use Rattle.jxlm_bits.specs.Decoding.{Meaning}
use Rattle.jxlm_bits.specs.Grammar.{Grammar, give, ◌>>=◌}
use Rattle.jxlm_base.specs.Grid.{Grid, IsFull}
use Rattle.jxl_image_header.specs.Fields.{when}
use Rattle.jxl_image_header.specs.Images.{Image}
use Rattle.jxl_image_header.specs.declared.size.Size.{Size}
use Rattle.jxl_patches.specs.Patches.{Patches, dictionary}
use Rattle.jxl_patches.specs.Patched.{ArePatched, HaveSides}

-- a frame that is saved: how large it is, and its channels; and of a frame that was blended what these stood for
pub record Saved : Type 0 where
  pub size : Size
  pub channels : List (Grid ℤ)
  pub singles : Option (List (Grid Float))

-- of each slot the frame that it holds, or none
abbrev pub Slots : Type 0
Slots = List (Option Saved)

-- how large these frames are, and their channels; no frame has none
abbrev pub sizes_of : Slots → List (Option Size)
sizes_of slots = map (option_map (λ f. f.size)) slots

abbrev pub frames_of : Slots → List (List (Grid ℤ))
frames_of slots = map (λ held. option_map_or (λ f. f.channels) held []) slots

-- before the first frame no slot holds one
abbrev pub no_slots : Slots
no_slots = replicate 4 None

-- a frame of this size is saved in slot k, in place of the one that it held
abbrev pub saved_with : Slots → ℕ → Size → List (Grid ℤ) → Option (List (Grid Float)) → Slots
saved_with slots k size grids singles = set slots k (Some (record { size = size; channels = grids; singles = singles }))

-- the same of a frame that was not blended
abbrev pub saved_in : Slots → ℕ → Size → List (Grid ℤ) → Slots
saved_in slots k size grids = saved_with slots k size grids None

-- what channel c of the frame in slot k stood for, if that was blended
abbrev pub single_of : Slots → ℕ → ℕ → Option (Grid Float)
single_of slots k c = option_and_then (λ f. option_and_then (λ all. slice_get all c) f.singles) (get_or slots k None)

-- these are n channels of this size
pub record AreOfSize (n : ℕ) (size : Size) (grids : List (Grid ℤ)) : Type 0 where
  pub count : length grids ≡ n
  pub sides : HaveSides size grids

-- values fill a grid of this size
pub record IsOfSize (size : Size) (g : Grid Float) : Type 0 where
  pub width : g.width ≡ size.width
  pub height : g.height ≡ size.height
  pub full : IsFull g

-- each frame that a slot holds has n channels of its size
abbrev pub HoldFrames : ℕ → Slots → Type 0
HoldFrames n slots = (k : ℕ) (f : Saved) → get_or slots k None ≡ Some f → AreOfSize n f.size f.channels

-- what the channels of a frame that a slot holds stood for has the size of the frame
abbrev pub HoldSingles : Slots → Type 0
HoldSingles slots = (k c : ℕ) (f : Saved) (g : Grid Float) → get_or slots k None ≡ Some f → single_of slots k c ≡ Some g → IsOfSize f.size g

-- the dictionary of patches, if its header says that there is one, of a frame of this size with this number of extra channels;
-- they may put, with repetitions, four times its cells, and 4096
abbrev pub optional_patches : {D : Type 0} → Meaning D → Bool → Size → ℕ → List (Option Size) → Grammar (Option Patches)
optional_patches d there size extra sizes = when there (dictionary d size extra sizes (4096 + 4 * (size.width * size.height)) >>= λ p. give (Some p)) None

-- Patches, if there are any, are put into channels of an image, of which this number are colours.
abbrev pub ArePut : Image → Slots → ℕ → Option Patches → List (Grid ℤ) → List (Grid ℤ) → Type 0
ArePut image slots colours None old new = new ≡ old
ArePut image slots colours (Some patches) old new = ArePatched image (frames_of slots) colours patches old new
