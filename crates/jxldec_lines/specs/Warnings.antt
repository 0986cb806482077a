-- What the output leaves out of a file, and the lines that warn of it.
use Rattle.std.specs.Prelude.{ℕ, ◌==◌, ◌||◌, not, nat_lt, List, [], ◌++◌, ◌∷◌, Bool, true, length, if◌then◌else◌, Option, Some, None, codes}
use Rattle.std.specs.Fmt.{decimal}
use Rattle.std.specs.List.{flat_map}
use Rattle.jxl_container.specs.declared.error.FileError.{FileError as BoxError}
use Rattle.jxl_image_header.specs.declared.channel.ExtraChannel.{ExtraChannel}
use Rattle.jxl_info.specs.Names.{kind_name}
use Rattle.jxl_picture.specs.Pictures.{is_full_alpha}
use Rattle.jxl_netpbm.specs.declared.format.Format.TheVariants as formats
use Rattle.jxldec_lines.specs.Failures.{failure_line, line_about}
use Rattle.jxldec_lines.specs.Losses.{loss_lines}
use Rattle.jxldec_lines.specs.Reasons.{box_text}
use Rattle.jxldec_lines.specs.declared.failures.Failure.TheVariants.{Missing}
use Rattle.jxldec_lines.specs.declared.failures.Lacks.{Lacks}
use Rattle.jxldec_lines.specs.declared.format.OutputFormat.{OutputFormat}
use Rattle.jxldec_lines.specs.declared.format.OutputFormat.TheVariants.{Netpbm, Png}
use Rattle.jxldec_lines.specs.declared.loss.Loss.{Loss}
use Rattle.jxldec_lines.specs.declared.warning.FrameCount.{FrameCount}

-- the kinds of channels, each after a space
abbrev pub kinds : List ExtraChannel → List ℕ
kinds channels = flat_map (λ c. codes " " ++ kind_name c.kind) channels

-- those but the first alpha of the picture's size
abbrev pub kinds_but_alpha : List ExtraChannel → List ℕ
kinds_but_alpha [] = []
kinds_but_alpha (c ∷ cs) = if is_full_alpha c then kinds cs else codes " " ++ kind_name c.kind ++ kinds_but_alpha cs

-- the kinds of extra channels that a format leaves out, each after a space
abbrev pub kinds_left_out : OutputFormat → List ExtraChannel → List ℕ
kinds_left_out (Netpbm formats.Text) channels = []
kinds_left_out (Netpbm formats.Pam) channels = kinds_but_alpha channels
kinds_left_out Png channels = kinds_but_alpha channels
kinds_left_out format channels = kinds channels

-- the line on channels that are left out, if there are any
unfoldable pub channel_line : List ℕ → List ℕ → List ℕ
channel_line name others = if length others == 0 then [] else line_about name (codes "channels left out:" ++ others)

-- the lines on what is left out of a picture: these channels, and what of its meaning the format does not hold
unfoldable pub left_out_lines : List ℕ → List ℕ → Loss → List ℕ
left_out_lines name others loss = channel_line name others ++ loss_lines name loss

-- a file that shows one picture
abbrev pub one_frame : FrameCount
one_frame = record { count = 1; is_all = true }

-- it shows more, or may
abbrev pub has_more : FrameCount → Bool
has_more frames = nat_lt 1 frames.count || not frames.is_all

-- the end of a count
abbrev pub or_more : Bool → List ℕ
or_more is_all = if is_all then [] else codes " or more"

-- the line on the pictures that are left out, if there are any
unfoldable pub frames_line : List ℕ → FrameCount → List ℕ
frames_line name frames = if has_more frames then line_about name (codes "frame 0 of " ++ decimal frames.count ++ or_more frames.is_all ++ codes "; --frame N writes another") else []

-- the line on the error of the boxes after the codestream, if they have one
unfoldable pub later_line : List ℕ → Option BoxError → List ℕ
later_line name (Some error) = line_about name (codes "ignored after the codestream: " ++ box_text error)
later_line name None = []

-- what is written on standard error beside the output, if it lacks these channels, this meaning and all of these frames but the first,
-- and this error comes after the codestream
abbrev pub warning_lines : List ℕ → List ℕ → Loss → FrameCount → Option BoxError → List ℕ
warning_lines name others loss frames later = left_out_lines name others loss ++ (frames_line name frames ++ later_line name later)

-- so it is, unless nothing but errors is to be printed
abbrev pub warnings : Bool → List ℕ → List ℕ → Loss → FrameCount → Option BoxError → List ℕ
warnings quiet name others loss frames later = if quiet then [] else warning_lines name others loss frames later

-- so it is of a file that does not have these data: after the warnings comes the line that says which
abbrev pub lacking_lines : Bool → List ℕ → List ℕ → Loss → FrameCount → Option BoxError → Lacks → List ℕ
lacking_lines quiet name others loss frames later lacks = warnings quiet name others loss frames later ++ failure_line name (Missing lacks)
