-- What keeps a file from being one still picture, and not from having frames.
use Rattle.std.specs.Prelude.{Bool, true, false, Option, Some, None}
use Rattle.jxl_codestream.specs.declared.error.FrontError.{FrontError}
use Rattle.jxl_codestream.specs.declared.error.FrontError.TheVariants as fronts
use Rattle.jxl_frame_header.specs.declared.refusal.Refusal.TheVariants as frames
use Rattle.jxl_image_header.specs.declared.refusal.Refusal.TheVariants as images
use Rattle.jxl_lossless.specs.declared.error.FileError.{FileError}
use Rattle.jxl_lossless.specs.declared.error.FileError.TheVariants as files
use Rattle.jxldec_lines.specs.declared.failures.Failure.{Failure}
use Rattle.jxldec_lines.specs.declared.failures.Failure.TheVariants as failures

-- the error is that the file has several pictures, or layers
abbrev pub is_of_layers : FrontError → Bool
is_of_layers (fronts.Image images.Animation) = true
is_of_layers (fronts.Frame frames.Crop) = true
is_of_layers (fronts.Frame frames.Blending) = true
is_of_layers (fronts.Frame frames.ExtraBlending) = true
is_of_layers (fronts.Frame frames.Frames) = true
is_of_layers error = false

-- the headers of a file that is not decoded for this reason, or for none, may be those of frames
abbrev pub has_frames : Option FrontError → Bool
has_frames (Some error) = is_of_layers error
has_frames None = true

-- and they are, by the reason
abbrev pub lists_frames : Option FrontError → Bool
lists_frames (Some error) = is_of_layers error
lists_frames None = false

-- a file is not decoded since it has several pictures, or layers
abbrev pub is_layers_error : FileError → Bool
is_layers_error (files.Front error) = is_of_layers error
is_layers_error error = false

-- so a still picture is not made
abbrev pub is_layered : Failure → Bool
is_layered (failures.File error) = is_layers_error error
is_layered failure = false
