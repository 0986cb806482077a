-- Why a codestream is not decoded whose headers stand, in words.
use Rattle.std.specs.Prelude.{ℕ, List, [], ◌++◌, Bool, true, false, codes}
use Rattle.std.specs.Fmt.{decimal}
use Rattle.jxl_image_header.specs.declared.refusal.Refusal.{Refusal as ImageRefusal}
use Rattle.jxl_image_header.specs.declared.refusal.Refusal.TheVariants as images
use Rattle.jxl_frame_header.specs.declared.refusal.Refusal.{Refusal as FrameRefusal}
use Rattle.jxl_frame_header.specs.declared.refusal.Refusal.TheVariants as frames
use Rattle.jxl_codestream.specs.declared.error.FrontError.{FrontError}
use Rattle.jxl_codestream.specs.declared.error.FrontError.TheVariants as errors

unfoldable pub image_reason : ImageRefusal → List ℕ
image_reason images.Preview = codes "a preview"
image_reason images.Animation = codes "an animation"
image_reason images.ExtraSize = codes "an extra channel with a shift above 3"
image_reason images.Xyb = codes "a lossy picture (XYB)"

unfoldable pub frame_reason : FrameRefusal → List ℕ
frame_reason frames.VarDct = codes "VarDCT"
frame_reason frames.LfFrame = codes "a frame of low frequencies"
frame_reason frames.SkippedFrame = codes "a frame that is skipped"
frame_reason frames.Noise = codes "noise"
frame_reason frames.FloatPatches = codes "patches on floats"
frame_reason frames.ShiftedPatches = codes "patches beside an extra channel of another size"
frame_reason frames.Splines = codes "splines"
frame_reason frames.UseLfFrame = codes "low frequencies of another frame"
frame_reason frames.YCbCr = codes "YCbCr"
frame_reason frames.Upsampling = codes "upsampling"
frame_reason frames.ExtraUpsampling = codes "upsampling of an extra channel"
frame_reason frames.Crop = codes "a cropped frame"
frame_reason frames.EmptyFrame = codes "a frame without samples"
frame_reason frames.Blending = codes "blending"
frame_reason frames.ExtraBlending = codes "blending of an extra channel"
frame_reason frames.Frames = codes "several frames"
frame_reason frames.SavedAfter = codes "a frame saved after its colours were changed"
frame_reason frames.LoopFilter = codes "a loop filter"

-- the headers stand, but the codestream is not decoded
abbrev pub is_refusal : FrontError → Bool
is_refusal (errors.Image reason) = true
is_refusal (errors.Frame reason) = true
is_refusal errors.TooLarge = true
is_refusal errors.FramesTooLarge = true
is_refusal errors.TooManySections = true
is_refusal (errors.TruncatedSection number) = true
is_refusal error = false

-- the reason, as the program prints it
unfoldable pub reason_text : FrontError → List ℕ
reason_text (errors.Image reason) = codes "not supported: " ++ image_reason reason
reason_text (errors.Frame reason) = codes "not supported: " ++ frame_reason reason
reason_text errors.TooLarge = codes "a picture above the limits"
reason_text errors.FramesTooLarge = codes "frames above the limits"
reason_text errors.TooManySections = codes "not supported: more than 16777216 sections"
reason_text (errors.TruncatedSection number) = codes "section " ++ decimal number ++ codes " is truncated"
reason_text error = []
