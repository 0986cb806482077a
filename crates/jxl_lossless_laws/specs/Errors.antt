-- The errors that do not depend on what a file says: out of memory, and a codestream of 2^61 bytes or more.
use Rattle.std.specs.Prelude.{ℕ, ◌^◌, ◌≤◌, List, length, Ok}
use Rattle.jxlm_bits.specs.ErrorKind.{kind_of}
use Rattle.jxlm_tree.specs.TreeReading.{IsOutOfMemory}
use Rattle.jxl_container.specs.Files.{HasCodestream, UnlessMemory}
use Rattle.jxl_codestream.specs.declared.error.FrontError.{FrontError}
use Rattle.jxl_codestream.specs.declared.error.FrontError.TheVariants as front
use Rattle.jxl_patches.specs.Errors.{patch_kind}
use Rattle.jxl_lossless.specs.declared.error.FileError.{FileError}
use Rattle.jxl_lossless.specs.declared.error.FileError.TheVariants as file
use Rattle.jxl_lossless.specs.declared.still.error.FrameError.{FrameError}
use Rattle.jxl_lossless.specs.declared.still.error.FrameError.TheVariants as frame

-- reading what comes before the sections is out of memory
abbrev pub IsFrontMemory : FrontError → Type 0
IsFrontMemory (front.ImageHeader e) = IsOutOfMemory (kind_of e)
IsFrontMemory (front.Profile e) = IsOutOfMemory (kind_of e)
IsFrontMemory (front.FrameHeader e) = IsOutOfMemory (kind_of e)
IsFrontMemory (front.Contents e) = IsOutOfMemory (kind_of e)
IsFrontMemory e = ⊥

-- decoding the sections of a frame is out of memory
abbrev pub IsFrameMemory : FrameError → Type 0
IsFrameMemory (frame.Header e) = IsOutOfMemory (kind_of e)
IsFrameMemory (frame.Samples e) = IsOutOfMemory (kind_of e)
IsFrameMemory frame.OutOfMemory = Unit {0}
IsFrameMemory e = ⊥

-- decoding a file is out of memory, in one of the forms that this has
abbrev pub IsFileMemory : FileError → Type 0
IsFileMemory (file.File e) = UnlessMemory e ⊥
IsFileMemory (file.Front e) = IsFrontMemory e
IsFileMemory (file.Patches e) = IsOutOfMemory (patch_kind e)
IsFileMemory (file.Tree e) = IsOutOfMemory (kind_of e)
IsFileMemory (file.Samples e) = IsFrameMemory e
IsFileMemory file.OutOfMemory = Unit {0}
IsFileMemory e = ⊥

-- This error is out of memory, or says truly that the codestream of a file has 2^61 bytes or more.
abbrev pub IsOfSize : List ℕ → FileError → Type 0
IsOfSize bytes (file.Front front.TooLong) = (stream : List ℕ) × HasCodestream bytes (Ok stream) × (2 ^ 61 ≤ length stream)
IsOfSize bytes e = IsFileMemory e
