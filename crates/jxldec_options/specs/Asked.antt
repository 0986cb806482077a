-- What the options are, by what was found on the command line.
use Rattle.std.specs.Prelude.{◌≡◌, ◌↔◌, ◌<◌, ◌^◌, ℕ, List, [], map, Bool, false, is_some, IsTrue, ◌||◌, not, codes}
use Rattle.std.specs.Prelude.{Option, Some, None, MatchOption, unwrap_or, option_and_then}
use Rattle.std.specs.Char.{to_ascii_lowercase}
use Rattle.std.specs.Option.{option_copied, option_or}
use Rattle.std.specs.Path.{path_extension}
use Rattle.std.specs.Str.Parse.{IsNumeral, digits_value, without_leading_plus}
use Rattle.clap.specs.Matches.{first_value, one_text}
use Rattle.clap.specs.declared.parser.matches.Found.{Found}
use Rattle.jxl_command.specs.Asked.{IsFlag, IsOutput}
use Rattle.jxl_picture.specs.declared.limits.Limits.{Limits}
use Rattle.jxldec_lines.specs.declared.format.OutputFormat.{OutputFormat}
use Rattle.jxldec_options.specs.Options.{IsNoFormat, IsWordOf, limits_of, task_of}
use Rattle.jxldec_options.specs.declared.options.Options.{Options}
use Rattle.jxldec_options.specs.declared.options.Task.{Task}

-- the text is a decimal number below 2^bits
abbrev pub IsNumeralBelow : ℕ → List ℕ → Type 0
IsNumeralBelow bits text = IsNumeral 10 (without_leading_plus text)
    × (digits_value 10 (without_leading_plus text) < 2 ^ bits)

-- the number that the text is, if it is one of at most this many bits
abbrev pub IsNumber : ℕ → Option (List ℕ) → Option ℕ → Type 0
IsNumber bits None number = number ≡ None
IsNumber bits (Some text) number = MatchOption number (¬ (IsNumeralBelow bits text))
    (λ n. IsNumeralBelow bits text × (digits_value 10 (without_leading_plus text) ≡ n))

-- the word that says the format: that of `--format`, else the ending of the pattern of names or of the output's path
abbrev pub format_word : Found → Options → Option (List ℕ)
format_word found options = option_or (first_value found (codes "format"))
    (option_and_then path_extension (option_or (option_copied options.frames) (option_copied options.output)))

-- the format that this word names, if it names one
abbrev pub IsFormat : Option (List ℕ) → Option OutputFormat → Type 0
IsFormat None format = format ≡ None
IsFormat (Some word) format = MatchOption format (IsNoFormat word) (IsWordOf word)

-- the word is the name of PNG files with several pictures, in letters of either case
abbrev pub IsApng : Option (List ℕ) → Bool → Type 0
IsApng None animated = animated ≡ false
IsApng (Some word) animated = IsTrue animated ↔ (map to_ascii_lowercase word ≡ codes "apng")

-- a picture is wanted: an output is given, or no other data are asked for
abbrev pub wants_picture : Found → Bool
wants_picture found = is_some (first_value found (codes "output"))
    || not (is_some (first_value found (codes "icc")) || is_some (first_value found (codes "exif"))
    || is_some (first_value found (codes "xmp")))

-- what is written to the output, by the flag `--info`, the number of `--frame` and the word of the format
pub record IsTask (found : Found) (word : Option (List ℕ)) (task : Task) : Type 0 where
  pub info : Bool
  pub frame : Option ℕ
  pub animated : Bool
  pub is_info : IsFlag found (codes "info") info
  pub is_frame : IsNumber 32 (one_text found (codes "frame")) frame
  pub is_animated : IsApng word animated
  pub is : task ≡ task_of info frame (wants_picture found) animated

-- how large a picture may be, by the numbers of `--max-pixels`, `--max-bytes`, `--max-decisions` and `--max-codewords`
pub record AreLimits (found : Found) (limits : Limits) : Type 0 where
  pub pixels : Option ℕ
  pub bytes : Option ℕ
  pub decisions : Option ℕ
  pub codewords : Option ℕ
  pub is_pixels : IsNumber 64 (one_text found (codes "pixels")) pixels
  pub is_bytes : IsNumber 64 (one_text found (codes "bytes")) bytes
  pub is_decisions : IsNumber 32 (one_text found (codes "decisions")) decisions
  pub is_codewords : IsNumber 64 (one_text found (codes "codewords")) codewords
  pub are : limits ≡ limits_of pixels bytes decisions codewords

-- the options are those of this command line
pub record AreOptions (found : Found) (options : Options) : Type 0 where
  pub input : options.input.now ≡ unwrap_or (first_value found (codes "input")) []
  pub frames : option_copied options.frames ≡ first_value found (codes "frames")
  pub output : IsOutput (first_value found (codes "output")) (option_copied options.output)
  pub output_name : options.output_name.now
      ≡ unwrap_or (option_or (option_copied options.frames) (option_copied options.output)) (codes "standard output")
  pub task : IsTask found (format_word found options) options.task
  pub icc : option_copied options.paths.icc ≡ first_value found (codes "icc")
  pub exif : option_copied options.paths.exif ≡ first_value found (codes "exif")
  pub xmp : option_copied options.paths.xmp ≡ first_value found (codes "xmp")
  pub format : IsFormat (format_word found options) options.format
  pub limits : AreLimits found options.limits
  pub quiet : IsFlag found (codes "quiet") options.quiet
  pub has_output : options.has_output ≡ is_some (first_value found (codes "output"))
