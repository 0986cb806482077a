-- Why a file is not decoded, in words.
use Rattle.std.specs.Prelude.{ℕ, List, ◌++◌, codes}
use Rattle.std.specs.Fmt.{decimal}
use Rattle.jxl_container.specs.declared.error.FileError.{FileError as BoxError}
use Rattle.jxl_container.specs.declared.error.FileError.TheVariants as boxes
use Rattle.jxl_codestream.specs.declared.error.FrontError.{FrontError}
use Rattle.jxl_codestream.specs.declared.error.FrontError.TheVariants as fronts
use Rattle.jxl_info.specs.Reasons.{frame_reason, image_reason}
use Rattle.jxl_patches.specs.declared.error.PatchError.{PatchError}
use Rattle.jxl_patches.specs.declared.error.PatchError.TheVariants as patches
use Rattle.jxl_animation.specs.declared.error.AnimationError.{AnimationError}
use Rattle.jxl_animation.specs.declared.error.AnimationError.TheVariants as animations
use Rattle.jxl_layers.specs.declared.error.LayerError.{LayerError}
use Rattle.jxl_layers.specs.declared.error.LayerError.TheVariants as layers
use Rattle.jxl_lossless.specs.declared.still.error.FrameError.{FrameError}
use Rattle.jxl_lossless.specs.declared.still.error.FrameError.TheVariants as frames
use Rattle.jxl_lossless.specs.declared.error.FileError.{FileError}
use Rattle.jxl_lossless.specs.declared.error.FileError.TheVariants as files
use Rattle.jxldec_lines.specs.Causes.{decoder_text, error_text}

-- why a file has no codestream that is read, or what is wrong after it
unfoldable pub box_text : BoxError → List ℕ
box_text boxes.NotJpegXl = codes "not a JPEG XL file"
box_text boxes.TruncatedBox = codes "a box that passes the end of the file"
box_text boxes.BoxTooSmall = codes "a box that is too small"
box_text boxes.FileType = codes "a file type box that is missing, repeated or of another brand"
box_text boxes.SecondCodestream = codes "a second codestream"
box_text boxes.PartAfterLast = codes "a part of the codestream after its last part"
box_text boxes.PartOutOfOrder = codes "a part of the codestream out of order"
box_text boxes.NoLastPart = codes "a codestream without its last part"
box_text boxes.NoCodestream = codes "no codestream"
box_text boxes.JpegReconstruction = codes "not supported: a JPEG file to be rebuilt"
box_text boxes.CompressedCodestream = codes "not supported: a compressed box of the codestream"
box_text boxes.OutOfMemory = codes "out of memory"

-- what is wrong before the sections of frames, or not supported
unfoldable pub front_text : FrontError → List ℕ
front_text fronts.TooLong = codes "a codestream that is too long"
front_text (fronts.ImageHeader error) = codes "image header: " ++ error_text error
front_text (fronts.Image reason) = codes "not supported: " ++ image_reason reason
front_text fronts.TooLarge = codes "a picture above the limits"
front_text (fronts.Profile error) = codes "colour profile: " ++ error_text error
front_text (fronts.FrameHeader error) = codes "frame header: " ++ error_text error
front_text (fronts.Frame reason) = codes "not supported: " ++ frame_reason reason
front_text fronts.FramesTooLarge = codes "frames above the limits"
front_text fronts.TooManySections = codes "not supported: more than 16777216 sections"
front_text (fronts.Contents error) = codes "table of contents: " ++ error_text error
front_text (fronts.TruncatedSection number) = codes "section " ++ decimal number ++ codes " is truncated"

-- what is wrong with the patches of a frame, or not supported
unfoldable pub patch_text : PatchError → List ℕ
patch_text (patches.Invalid name value) = codes "invalid value " ++ decimal value ++ codes " for " ++ name.now
patch_text (patches.Decoder error) = codes "entropy decoder error: " ++ decoder_text error
patch_text patches.TooLarge = codes "patches of too many cells"
patch_text patches.OutOfMemory = codes "out of memory"

-- what is wrong with the samples of a frame, or not supported
unfoldable pub frame_text : FrameError → List ℕ
frame_text (frames.Header error) = codes "image: " ++ error_text error
frame_text frames.WeightedPalette = codes "not supported: a palette with weighted deltas"
frame_text frames.NoGroups = codes "a group of no columns or rows"
frame_text frames.NoSection = codes "a group without a section"
frame_text frames.GroupWeightedPalette = codes "not supported: a palette with weighted deltas in a group"
frame_text frames.TooManyCodewords = codes "codes of sections: more codewords than the limit"
frame_text frames.TooManyDecisions = codes "tree of a section: more decisions than the limit"
frame_text (frames.Samples error) = codes "samples: " ++ error_text error
frame_text frames.OutOfMemory = codes "out of memory"

-- why a file is not decoded
unfoldable pub file_text : FileError → List ℕ
file_text (files.File error) = box_text error
file_text (files.Front error) = front_text error
file_text (files.Patches error) = codes "patches: " ++ patch_text error
file_text (files.Start error) = codes "first section: " ++ error_text error
file_text (files.Tree error) = codes "global tree: " ++ error_text error
file_text files.TooManyDecisions = codes "global tree: more decisions than the limit"
file_text (files.Samples error) = frame_text error
file_text files.OutOfMemory = codes "out of memory"

-- why a frame is not composed with others
unfoldable pub layer_text : LayerError → List ℕ
layer_text layers.BlendedFloats = codes "not supported: blended floats"
layer_text layers.ShiftedChannels = codes "not supported: layers beside an extra channel of another size"
layer_text (layers.Background slot) = codes "a frame blended with one of another size, in slot " ++ decimal slot

-- why the frames of a file are not decoded
unfoldable pub animation_text : AnimationError → List ℕ
animation_text (animations.File error) = file_text error
animation_text (animations.Layer error) = layer_text error
