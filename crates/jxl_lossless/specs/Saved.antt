-- The frames of a codestream that are saved for others, and the frame after them (ISO/IEC 18181-1, frame header: saving).
use Rattle.std.specs.Prelude.{◌≡◌, ℕ, ℤ, List, [], ◌∷◌, ◌++◌, get_or, Some, None}
use Rattle.jxlm_bits.specs.Decoding.{Meaning}
use Rattle.jxlm_base.specs.Grid.{Grid}
use Rattle.jxl_image_header.specs.Images.{Image}
use Rattle.jxl_frame_header.specs.Frames.{frame_size}
use Rattle.jxl_picture.specs.Pictures.{AreChannels}
use Rattle.jxl_codestream.specs.Fronts.{FrameAt}
use Rattle.jxl_patches.specs.Slots.{Saved, Slots, no_slots, saved_in}
use Rattle.jxl_lossless.specs.Frames.{FrameFails, IsFrame}
use Rattle.jxl_lossless.specs.declared.error.FileError.{FileError}
use Rattle.jxl_lossless.specs.declared.error.FileError.TheVariants as errors

-- each frame that a slot holds has all channels of an image, of its size
abbrev pub HoldChannels : Image → Slots → Type 0
HoldChannels image slots = (k : ℕ) (f : Saved) → get_or slots k None ≡ Some f → AreChannels image f.size f.channels

module _ {D : Type 0} (d : Meaning D) (bytes : List ℕ) (image : Image) where
  -- These frames are decoded one after another, with patches of what the slots hold then, and the channels of each are saved
  -- in the slot that its header names.
  abbrev pub AreSaved : List FrameAt → Slots → Slots → ℕ → ℕ → Type 0
  AreSaved [] old new before after = (new ≡ old) × (after ≡ before)
  AreSaved (f ∷ fs) old new before after =
      (grids : List (Grid ℤ)) × (between : ℕ) × IsFrame d image old bytes f grids before between
      × AreSaved fs (saved_in old f.header.frame_use.save_as_reference (frame_size image.size f.header) grids) new between after

  -- the saved frames are decoded, and after them these are the channels of the frame that is shown
  abbrev pub AreDecoded : List FrameAt → FrameAt → List (Grid ℤ) → ℕ → ℕ → Type 0
  AreDecoded saved shown grids before after =
      (slots : Slots) × (between : ℕ) × AreSaved saved no_slots slots before between × IsFrame d image slots bytes shown grids between after

  -- what each error says of the frames of a codestream: those before one are decoded, which has this error
  abbrev pub FramesFail : List FrameAt → FileError → Type 0
  FramesFail frames errors.OutOfMemory = Unit {0}
  FramesFail frames e = (decoded : List FrameAt) × (frame : FrameAt) × (others : List FrameAt) × (frames ≡ decoded ++ frame ∷ others)
      × (slots : Slots) × (before : ℕ) × (after : ℕ) × AreSaved decoded no_slots slots before after × FrameFails d image slots bytes frame e
