-- What the sections of a frame are decoded from, as one value.
use Rattle.std.specs.Prelude.{ℕ, ℤ, List, [], IsTrue}
use Rattle.std.specs.Int.{Width}
use Rattle.jxlm_bits.specs.Decoding.{Meaning}
use Rattle.jxlm_base.specs.Grid.{Grid}
use Rattle.jxlm_groups.specs.Passes.{can_group}
use Rattle.jxlm_transform.specs.Channels.{ChannelList}
use Rattle.jxl_lossless.specs.Frames.{channels_given}
use Rattle.jxl_lossless.specs.Places.{own_passes}
use Rattle.jxl_lossless.specs.Inputs.{IsReadyInput, image_in, size_of}
use Rattle.jxl_lossless.specs.Inner.Coded.{CodedFails, IsCoded}
use Rattle.jxl_lossless.specs.declared.error.FileError.{FileError}
use Rattle.jxl_lossless.specs.declared.frame.FrameInput.{FrameInput}
use Rattle.jxl_lossless.specs.declared.frame.SectionsInput.{SectionsInput}

-- the channels that it has
abbrev pub given_of : FrameInput → ChannelList
given_of x = channels_given (image_in x) (size_of x)

-- What decoding its sections needs: the frame can be decoded, and its passes can cut an image.
pub record IsReadyCut (x : SectionsInput) : Type 0 where
  pub input : IsReadyInput x.input
  pub usable : IsTrue (can_group (own_passes x.places) [])

module _ {D : Type 0} (d : Meaning D) (w : Width) (x : SectionsInput) (first : List ℕ) (p : ℕ) where
  -- these are the channels of the frame without its patches, by its first section from bit p on
  abbrev pub CodedOf : List (Grid ℤ) → ℕ → ℕ → Type 0
  CodedOf grids before after = IsCoded d w (image_in x.input) x.input.frame.now.trees (size_of x.input) x.input.frame.now.header.group_dim first p x.places grids before after

  -- what each error says of them
  abbrev pub CodedOfFails : FileError → Type 0
  CodedOfFails error = CodedFails d w (image_in x.input) x.input.frame.now.trees (size_of x.input) x.input.frame.now.header.group_dim first p x.places error
