-- What patches make of a frame's samples (ISO/IEC 18181-1, frame: patches).
use Rattle.std.specs.Prelude.{◌≡◌, ℕ, zero, suc, ◌+◌, ◌-◌, ◌*◌, ◌<◌, ◌≤◌, ◌&&◌, nat_lt, nat_le, Bool, true, false, if◌then◌else◌, List, [], length, get_or, ℤ, ◌+ℤ◌, Option, Some, None}
use Rattle.std.specs.Int.{int_wrap, w32}
use Rattle.jxlm_base.specs.Grid.{Grid, grid, at}
use Rattle.jxl_image_header.specs.Images.{Image}
use Rattle.jxl_image_header.specs.declared.size.Size.{Size}
use Rattle.jxl_frame_header.specs.declared.blending.BlendingInfo.{BlendingInfo}
use Rattle.jxl_blending.specs.Blends.{blended_sample}
use Rattle.jxl_blending.specs.Choices.{colour_blending, extra_blending}
use Rattle.jxl_blending.specs.declared.blending.BlendKind.{BlendKind}
use Rattle.jxl_blending.specs.declared.blending.BlendKind.TheVariants as kinds
use Rattle.jxl_blending.specs.declared.blending.ChannelBlending.{ChannelBlending}
use Rattle.jxl_blending.specs.declared.blending.Point.{Point}
use Rattle.jxl_patches.specs.Dictionaries.{AreWithin, place_at}
use Rattle.jxl_patches.specs.Patches.{Patches}
use Rattle.jxl_patches.specs.declared.dictionary.Place.{Place}
use Rattle.jxl_patches.specs.declared.dictionary.PatchBlending.{PatchBlending}
use Rattle.jxl_patches.specs.declared.dictionary.PatchMode.{PatchMode}
use Rattle.jxl_patches.specs.declared.dictionary.PatchMode.TheVariants.{Keep, Replace, Add, Blend}

-- a place covers the cell in column x of row y of the frame
abbrev pub covers : Place → ℕ → ℕ → Bool
covers p x y = nat_le p.x x && nat_lt x (p.x + p.source.width) && (nat_le p.y y && nat_lt y (p.y + p.source.height))

-- a blending of a patch as that of a frame
abbrev pub info_of : PatchBlending → BlendingInfo
info_of b = record { mode = b.mode; alpha_channel = b.alpha_channel; clamp = b.clamp; source = 0 }

-- how channel c is blended in an image with this number of colours
abbrev pub channel_blending : Image → ℕ → PatchBlending → ℕ → ChannelBlending
channel_blending image colours b c = if nat_lt c colours then colour_blending image (info_of b) else extra_blending image (info_of b) (c - colours)

-- whether a patch that is said to lie below the frame does: where samples replace others, as those of colours without alpha do, the
-- patch's replace the frame's
abbrev pub lies_below : BlendKind → Bool → Bool
lies_below kinds.Replace below = false
lies_below kind below = below

-- what a patch's sample and the frame's make: the one that lies above over the other
abbrev pub layered_sample : ChannelBlending → Bool → Point → Point → ℤ
layered_sample blending below patch frame = if lies_below blending.kind below then blended_sample blending frame patch else blended_sample blending patch frame

-- What a mode makes of a patch's sample and the frame's, each with its alpha, in channel c; sums are taken modulo 2 ^ 32.
abbrev pub mixed_sample : Image → ℕ → PatchMode → ℕ → Point → Point → ℤ
mixed_sample image colours Keep c patch frame = frame.sample
mixed_sample image colours Replace c patch frame = patch.sample
mixed_sample image colours Add c patch frame = int_wrap w32 (frame.sample +ℤ patch.sample)
mixed_sample image colours (Blend b) c patch frame = layered_sample (channel_blending image colours b c) b.below patch frame

-- The channel whose samples are the alpha of channel c, in a frame with this number of colours and of channels: that of the
-- number which the mode names, if there is one. Modes without alpha, and a frame without that channel, have channel c itself.
abbrev pub alpha_of : ℕ → ℕ → PatchMode → ℕ → ℕ
alpha_of colours channels (Blend b) c = if nat_lt (colours + b.alpha_channel) channels then colours + b.alpha_channel else c
alpha_of colours channels mode c = c

-- a channel of the frame that a slot holds; a grid of no cells where there is none
abbrev pub channel_of : List (List (Grid ℤ)) → ℕ → ℕ → Grid ℤ
channel_of frames slot channel = get_or (get_or frames slot []) channel (grid 0 0 [])

-- how many modes a place has; of them that of channel c: the first for colours, then one for each extra channel
abbrev pub kinds_of : ℕ → ℕ → ℕ
kinds_of colours channels = 1 + (channels - colours)

abbrev pub kind_of : ℕ → ℕ → ℕ
kind_of colours c = 1 + c - colours

-- the mode of place n for channel c
abbrev pub mode_at : Patches → ℕ → ℕ → ℕ → ℕ → PatchMode
mode_at patches colours channels n c = get_or patches.modes (n * kinds_of colours channels + kind_of colours c) Keep

-- the sample of the rectangle that lies on column x of row y, once its left top cell lies at the place
abbrev pub sample_laid : Grid ℤ → Place → ℕ → ℕ → ℤ
sample_laid source p x y = at source (p.source.x0 + (x - p.x)) (p.source.y0 + (y - p.y))

-- the samples of the pixel in column x of row y, of each channel one
abbrev pub pixel : List (Grid ℤ) → ℕ → ℕ → ℕ → ℤ
pixel grids x y c = at (get_or grids c (grid 0 0 [])) x y

-- an image with this number of colours and of channels, its patches, and the frames that they are taken from
pub record Patching : Type 0 where
  pub image : Image
  pub colours : ℕ
  pub channels : ℕ
  pub frames : List (List (Grid ℤ))
  pub patches : Patches

-- What place n makes of the samples of a pixel in column x of row y: where a cell of its rectangle lies on the pixel, its mode
-- mixes the two, each with the alpha that it had before.
abbrev pub pixel_put : Patching → ℕ → ℕ → ℕ → (ℕ → ℤ) → ℕ → ℤ
pixel_put t n x y samples c =
    let p : Place = place_at t.patches n in
    let mode : PatchMode = mode_at t.patches t.colours t.channels n c in
    let alpha : ℕ = alpha_of t.colours t.channels mode c in
    let laid : ℕ → ℤ = λ k. sample_laid (channel_of t.frames p.source.slot k) p x y in
    if covers p x y then mixed_sample t.image t.colours mode c (record { sample = laid c; alpha = laid alpha }) (record { sample = samples c; alpha = samples alpha }) else samples c

-- What the first n places make of a pixel, one after another.
unfoldable pub patched_pixel : Patching → ℕ → ℕ → ℕ → (ℕ → ℤ) → ℕ → ℤ
patched_pixel t x y zero samples = samples
patched_pixel t x y (suc n) samples = pixel_put t n x y (patched_pixel t x y n samples)

-- A place lies within a channel, and its rectangle in the grid that it is of.
pub record PlaceFits (p : Place) (source target : Grid ℤ) : Type 0 where
  pub columns : p.x + p.source.width ≤ target.width
  pub rows : p.y + p.source.height ≤ target.height
  pub source_columns : p.source.x0 + p.source.width ≤ source.width
  pub source_rows : p.source.y0 + p.source.height ≤ source.height

-- Patches fit channels, of which this number are colours, and saved frames.
pub record Fits (frames : List (List (Grid ℤ))) (colours : ℕ) (patches : Patches) (channels : List (Grid ℤ)) : Type 0 where
  pub modes : length patches.modes ≡ length patches.places * kinds_of colours (length channels)
  pub slots : (n : ℕ) → n < length patches.places → (place_at patches n).source.slot < length frames
  pub held : (n c : ℕ) → n < length patches.places → c < length channels → c < length (get_or frames (place_at patches n).source.slot [])
  pub places : (n c : ℕ) → n < length patches.places → c < length channels →
      PlaceFits (place_at patches n) (channel_of frames (place_at patches n).source.slot c) (get_or channels c (grid 0 0 []))

-- Frames are saved in slots: one of each size that a slot holds, of this number of channels, each with its sides.
pub record AreSaved (slots : List (Option Size)) (channels : ℕ) (frames : List (List (Grid ℤ))) : Type 0 where
  pub slot : (k : ℕ) (size : Size) → get_or slots k None ≡ Some size → k < length frames
  pub count : (k : ℕ) (size : Size) → get_or slots k None ≡ Some size → channels ≤ length (get_or frames k [])
  pub width : (k c : ℕ) (size : Size) → get_or slots k None ≡ Some size → c < channels → (channel_of frames k c).width ≡ size.width
  pub height : (k c : ℕ) (size : Size) → get_or slots k None ≡ Some size → c < channels → (channel_of frames k c).height ≡ size.height

-- channels have these sides
pub record HaveSides (size : Size) (channels : List (Grid ℤ)) : Type 0 where
  pub width : (c : ℕ) → c < length channels → (get_or channels c (grid 0 0 [])).width ≡ size.width
  pub height : (c : ℕ) → c < length channels → (get_or channels c (grid 0 0 [])).height ≡ size.height

-- What was read for a frame fits the channels of that frame, and the frames that were saved.
abbrev pub ReadPatchesFit : Type 0
ReadPatchesFit = (size : Size) (extra : ℕ) (slots : List (Option Size)) (patches : Patches) (frames : List (List (Grid ℤ))) (colours : ℕ) (channels : List (Grid ℤ)) →
    AreWithin size extra slots patches → AreSaved slots (length channels) frames → HaveSides size channels → length channels ≡ colours + extra → Fits frames colours patches channels

abbrev pub patching : Image → List (List (Grid ℤ)) → ℕ → Patches → List (Grid ℤ) → Patching
patching image frames colours patches grids = record { image = image; colours = colours; channels = length grids; frames = frames; patches = patches }

-- Channels, of which this number are colours, are patched: they keep their sizes, and each pixel is what all places make of it.
-- Colours take the first mode of a place, each extra channel one of its own.
pub record ArePatched (image : Image) (frames : List (List (Grid ℤ))) (colours : ℕ) (patches : Patches) (old new : List (Grid ℤ)) : Type 0 where
  pub count : length new ≡ length old
  pub width : (c : ℕ) → c < length old → (get_or new c (grid 0 0 [])).width ≡ (get_or old c (grid 0 0 [])).width
  pub height : (c : ℕ) → c < length old → (get_or new c (grid 0 0 [])).height ≡ (get_or old c (grid 0 0 [])).height
  pub each : (c x y : ℕ) → c < length old → x < (get_or old c (grid 0 0 [])).width → y < (get_or old c (grid 0 0 [])).height →
      at (get_or new c (grid 0 0 [])) x y ≡ patched_pixel (patching image frames colours patches old) x y (length patches.places) (pixel old x y) c

-- A cell that no place covers stays as it is.
abbrev pub UncoveredCellsStay : Type 0
UncoveredCellsStay = (t : Patching) (x y n : ℕ) (samples : ℕ → ℤ) (c : ℕ) →
    ((m : ℕ) → m < n → covers (place_at t.patches m) x y ≡ false) → patched_pixel t x y n samples c ≡ samples c

-- A cell whose last place replaces it has the sample of the rectangle, whatever was there.
abbrev pub LastReplacementStays : Type 0
LastReplacementStays = (t : Patching) (x y n m : ℕ) (samples : ℕ → ℤ) (c : ℕ) → m < n →
    covers (place_at t.patches m) x y ≡ true → mode_at t.patches t.colours t.channels m c ≡ Replace → ((l : ℕ) → m < l → l < n → covers (place_at t.patches l) x y ≡ false) →
    patched_pixel t x y n samples c ≡ sample_laid (channel_of t.frames (place_at t.patches m).source.slot c) (place_at t.patches m) x y
