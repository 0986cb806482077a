-- What decoding all samples of an image that was read, and undoing its transforms, gives.
use Rattle.std.specs.Prelude.{◌≡◌, ℕ, ◌+◌, ◌*◌, ◌≤◌, ℤ, List}
use Rattle.std.specs.Int.{Width}
use Rattle.jxlm_bits.specs.Decoding.{Meaning}
use Rattle.jxlm_bits.specs.ErrorKind.{ErrorKind, OfDecoder}
use Rattle.jxlm_base.specs.Grid.{Grid}
use Rattle.jxlm_bits.specs.declared.decoder.DecoderError.{DecoderError}
use Rattle.jxlm_samples.specs.Coded.{DecodingFails, IsCodedWhole}
use Rattle.jxl_modular.specs.Image.{Image, IsOnlyImage, cost_of, image_grids}
use Rattle.jxlm_samples.specs.Part.{Part, cell_count}

module _ {S D : Type 0} where
  -- the part of all coded channels of an image, read with this stream index
  abbrev pub whole_part : Image S D → ℕ → Part
  whole_part x stream = record { channels = x.channels; weights = x.weights; tree = x.config.tree; stream = stream }

  -- how many samples the coded channels have
  abbrev pub samples_in : Image S D → ℕ
  samples_in x = cell_count x.channels

module _ {S D : Type 0} (d : Meaning D) (w : Width) (to_int : S → ℤ) (bytes : List ℕ) (stream : ℕ) (old : Image S D) (p : ℕ) where
  -- Some samples are coded whole from position p up to position q, and the new image's channels are the only ones
  -- that the transforms turn into them.
  pub record IsFilled (new : Image S D) (q : ℕ) : Type 0 where
    pub samples : List (Grid ℤ)
    pub coded : IsCodedWhole d w (whole_part old stream) bytes old.config.decoder p samples q
    pub only : IsOnlyImage w old (image_grids to_int new) samples

  -- decoding the samples from position p is this error, which leaves the reader at position q
  pub record FillFails (error : ErrorKind) (q before after : ℕ) : Type 0 where
    pub cause : DecoderError
    pub tried : ℕ
    pub fails : DecodingFails d w (whole_part old stream) bytes old.config.decoder p cause q tried
    pub cause_is : error ≡ OfDecoder cause
    pub steps : after ≤ before + tried * cost_of old
