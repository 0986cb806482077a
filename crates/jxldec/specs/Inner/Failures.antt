-- A failure of an output.
use Rattle.std.specs.Prelude.{ℕ, String}
use Rattle.std.specs.declared.alloc.Global.{Global}
use Rattle.jxldec_lines.specs.declared.failures.Failure.{Failure}
use Rattle.jxldec_lines.specs.declared.failures.Failure.TheVariants as failures
use Rattle.jxldec.specs.declared.frames.At.TheVariants as places
use Rattle.jxldec.specs.declared.frames.FramesFailure.{FramesFailure}

-- a failure of the output of this name: out of memory, nothing was written, and it is one of the picture with this number
abbrev pub page_failure : ℕ → String Global → Failure → FramesFailure
page_failure number name failures.OutOfMemory = record { at = places.Frame number; failure = failures.OutOfMemory }
page_failure number name failure = record { at = places.Output name; failure = failure }
