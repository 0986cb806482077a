-- What the command line asks for.
use Rattle.std.specs.Prelude.{◌≡◌, ◌⊎◌, ℕ, ◌^◌, List, map, Bool, true, false, Option, Some, None, if◌then◌else◌, codes, not, is_none, is_some, ◌&&◌}
use Rattle.std.specs.Option.{unwrap_or, option_or, option_map_or}
use Rattle.std.specs.Path.{path_extension}
use Rattle.std.specs.Char.{to_ascii_lowercase}
use Rattle.jxl_netpbm.specs.declared.format.Format.{Format}
use Rattle.jxl_netpbm.specs.declared.format.Format.TheVariants as formats
use Rattle.jxl_picture.specs.declared.limits.Limits.{Limits}
use Rattle.jxl_command.specs.Extras.{path_of}
use Rattle.jxldec_lines.specs.Failures.{is_of_output}
use Rattle.jxldec_lines.specs.declared.failures.Failure.{Failure}
use Rattle.jxldec_lines.specs.declared.failures.Failure.TheVariants as failures
use Rattle.jxldec_lines.specs.declared.format.OutputFormat.{OutputFormat}
use Rattle.jxldec_lines.specs.declared.format.OutputFormat.TheVariants.{Netpbm, Png}
use Rattle.jxldec_options.specs.declared.options.Options.{Options}
use Rattle.jxldec_options.specs.declared.options.Task.{Task}
use Rattle.jxldec_options.specs.declared.options.Task.TheVariants as tasks

-- the word is a name of a format, which is an ending of its files, too: PNM is PGM for grey and PPM for red, green and blue, and APNG is
-- PNG with several pictures
abbrev pub IsName : List ℕ → OutputFormat → Type 0
IsName word (Netpbm formats.Pgm) = word ≡ codes "pgm"
IsName word (Netpbm formats.Ppm) = (word ≡ codes "ppm") ⊎ (word ≡ codes "pnm")
IsName word (Netpbm formats.Pam) = word ≡ codes "pam"
IsName word (Netpbm formats.Pfm) = word ≡ codes "pfm"
IsName word (Netpbm formats.Text) = word ≡ codes "text"
IsName word Png = (word ≡ codes "png") ⊎ (word ≡ codes "apng")

-- the text is a name of a format, in letters of either case
abbrev pub IsWordOf : List ℕ → OutputFormat → Type 0
IsWordOf text format = IsName (map to_ascii_lowercase text) format

-- it is the name of none
abbrev pub IsNoFormat : List ℕ → Type 0
IsNoFormat text = (format : OutputFormat) → ¬ (IsWordOf text format)

-- it is the name of no netpbm format
abbrev pub IsNoNetpbm : List ℕ → Type 0
IsNoNetpbm text = (format : Format) → ¬ (IsWordOf text (Netpbm format))

-- how large a picture may be, where these numbers of pixels, of bytes of samples, of decisions for a sample and of codewords are
-- asked for: of what is not asked for, as much as by default
abbrev pub limits_of : Option ℕ → Option ℕ → Option ℕ → Option ℕ → Limits
limits_of pixels bytes decisions codewords = record {
  pixels = unwrap_or pixels (2 ^ 28);
  channels = 256;
  bytes = unwrap_or bytes (2 ^ 31);
  profile = 2 ^ 24;
  decisions = unwrap_or decisions 128;
  codewords = unwrap_or codewords (2 ^ 26);
}

-- what is written to the output: with `--info`, the headers; else the picture with the number that is asked for; else the animation, if
-- a picture is wanted and its format has several, or the picture, or nothing
abbrev pub task_of : Bool → Option ℕ → Bool → Bool → Task
task_of true frame picture animated = tasks.Headers
task_of false (Some number) picture animated = tasks.Frame number
task_of false None false animated = tasks.Nothing
task_of false None true true = tasks.Animation
task_of false None true false = tasks.Picture

-- the name of what fails: of where other data are written, of the output, or of the file
abbrev pub subject : Options → Failure → List ℕ
subject options (failures.Unsaved extra error) = path_of options.paths extra
subject options failure = if is_of_output failure then options.output_name.now else options.input.now

-- the name of the output, or the pattern of names, has an ending, and no format is known: by its name or by that ending
abbrev pub has_other_ending : Options → Bool
has_other_ending options = not (is_some options.format)
    && option_map_or (λ path. is_some (path_extension path.now)) (option_or options.frames options.output) false

-- the task writes a picture
abbrev pub is_picture : Task → Bool
is_picture tasks.Headers = false
is_picture tasks.Nothing = false
is_picture task = true

-- the format is decimal numbers
abbrev pub is_text : Option OutputFormat → Bool
is_text (Some (Netpbm formats.Text)) = true
is_text format = false

-- the output gets bytes of a picture that are no text: not with `--frames`, where each picture has an output of its own
abbrev pub writes_binary : Options → Bool
writes_binary options = (is_picture options.task && is_none options.frames) && not (is_text options.format)
