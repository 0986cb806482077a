-- For how long pictures are shown, as lines of text.
use Rattle.std.specs.Prelude.{ℕ, ◌+◌, ◌*◌, ◌/◌, ◌%◌, List, [], ◌++◌, length, max, Option, Some, None, codes}
use Rattle.std.specs.Fmt.{decimal}
use Rattle.std.specs.List.{enumerate_from, flat_map}
use Rattle.jxl_image_header.specs.declared.image.Animation.{Animation}
use Rattle.jxl_text.specs.Printing.{line}

-- units of time of an animation in tenths of a millisecond, rounded to nearest, half up
unfoldable pub tenths : Animation → ℕ → ℕ
tenths a ticks = (2 * (10000 * (ticks * a.tps_denominator)) + max a.tps_numerator 1) / (2 * max a.tps_numerator 1)

-- the duration of the picture with this number
unfoldable pub frame_line : Animation → ℕ → ℕ → List ℕ
frame_line a number ticks = line (codes "frame " ++ decimal number ++ codes ": duration: " ++ decimal (tenths a ticks / 10) ++ codes "." ++ decimal (tenths a ticks % 10) ++ codes " ms")

-- a line for each picture, which are numbered from 0
abbrev pub frame_lines : Animation → List ℕ → List ℕ
frame_lines a durations = flat_map (λ d. frame_line a d.0 d.1) (enumerate_from 0 durations)

-- how many pictures an animation shows, and the duration of each; of a picture that does not change nothing
unfoldable pub timeline_lines : Option Animation → List ℕ → List ℕ
timeline_lines (Some a) durations = line (codes "num_frames: " ++ decimal (length durations)) ++ frame_lines a durations
timeline_lines None durations = []
