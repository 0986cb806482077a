-- The numbers by which a call says how it ended: 0, done; 1, no JPEG XL file; 2, against the standard; 3, truncated; 4, not
-- supported; 5, above the limits; 6, out of memory; 7, an array of another size; 8, a struct that is too small; 9, no
-- room for the file; 10, a picture that no file holds.
use Rattle.std.specs.Prelude.{ℕ}
use Rattle.jxl_container.specs.declared.error.FileError.{FileError as BoxError}
use Rattle.jxl_container.specs.declared.error.FileError.TheVariants as boxes
use Rattle.jxlm_bits.specs.declared.decoder.DecoderError.{DecoderError}
use Rattle.jxlm_bits.specs.declared.decoder.DecoderError.TheVariants as tokens
use Rattle.jxlm_bits.specs.declared.bits.BitstreamError.TheVariants as bits
use Rattle.jxlm_bits.specs.declared.error.Error.{Error}
use Rattle.jxlm_bits.specs.declared.error.Error.TheVariants as fields
use Rattle.jxl_codestream.specs.declared.error.FrontError.{FrontError}
use Rattle.jxl_codestream.specs.declared.error.FrontError.TheVariants as fronts
use Rattle.jxl_patches.specs.declared.error.PatchError.{PatchError}
use Rattle.jxl_patches.specs.declared.error.PatchError.TheVariants as patches
use Rattle.jxl_lossless.specs.declared.still.error.FrameError.{FrameError}
use Rattle.jxl_lossless.specs.declared.still.error.FrameError.TheVariants as frames
use Rattle.jxl_lossless.specs.declared.error.FileError.{FileError}
use Rattle.jxl_lossless.specs.declared.error.FileError.TheVariants as files

-- of an error of the boxes
abbrev pub status_of_box : BoxError → ℕ
status_of_box boxes.NotJpegXl = 1
status_of_box boxes.TruncatedBox = 3
status_of_box boxes.JpegReconstruction = 4
status_of_box boxes.CompressedCodestream = 4
status_of_box boxes.OutOfMemory = 6
status_of_box e = 2

-- of an error of the entropy decoder
abbrev pub status_of_tokens : DecoderError → ℕ
status_of_tokens tokens.UnexpectedEof = 3
status_of_tokens (tokens.Invalid n) = 2
status_of_tokens tokens.OutOfMemory = 6

-- of an error of a field, a tree or samples
abbrev pub status_of_field : Error → ℕ
status_of_field (fields.Bitstream bits.UnexpectedEof) = 3
status_of_field (fields.Decoder e) = status_of_tokens e
status_of_field (fields.Buffer e) = 6
status_of_field e = 2

-- of an error of what comes before the sections of frames
abbrev pub status_of_front : FrontError → ℕ
status_of_front fronts.TooLong = 5
status_of_front fronts.TooLarge = 5
status_of_front fronts.FramesTooLarge = 5
status_of_front (fronts.Image r) = 4
status_of_front (fronts.Frame r) = 4
status_of_front fronts.TooManySections = 4
status_of_front (fronts.TruncatedSection n) = 3
status_of_front (fronts.ImageHeader e) = status_of_field e
status_of_front (fronts.Profile e) = status_of_field e
status_of_front (fronts.FrameHeader e) = status_of_field e
status_of_front (fronts.Contents e) = status_of_field e

-- of an error of patches
abbrev pub status_of_patches : PatchError → ℕ
status_of_patches (patches.Decoder e) = status_of_tokens e
status_of_patches patches.TooLarge = 5
status_of_patches patches.OutOfMemory = 6
status_of_patches e = 2

-- of an error of the sections of a frame
abbrev pub status_of_frame : FrameError → ℕ
status_of_frame (frames.Header e) = status_of_field e
status_of_frame (frames.Samples e) = status_of_field e
status_of_frame frames.WeightedPalette = 4
status_of_frame frames.GroupWeightedPalette = 4
status_of_frame frames.TooManyCodewords = 5
status_of_frame frames.TooManyDecisions = 5
status_of_frame frames.OutOfMemory = 6
status_of_frame e = 2

-- of the error of a file
abbrev pub status_of : FileError → ℕ
status_of (files.File e) = status_of_box e
status_of (files.Front e) = status_of_front e
status_of (files.Patches e) = status_of_patches e
status_of (files.Start e) = status_of_field e
status_of (files.Tree e) = status_of_field e
status_of files.TooManyDecisions = 5
status_of (files.Samples e) = status_of_frame e
status_of files.OutOfMemory = 6
