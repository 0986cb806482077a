-- What the options are, by what was found on the command line.
use Rattle.std.specs.Prelude.{◌≡◌, ◌⊎◌, ℕ, List, [], Bool, is_some, codes, Option, Some, None, unwrap_or}
use Rattle.std.specs.Option.{option_copied}
use Rattle.clap.specs.Matches.{first_value}
use Rattle.clap.specs.declared.parser.matches.Found.{Found}
use Rattle.jxl_command.specs.Asked.{IsFlag, IsOutput}
use Rattle.jxl_encode_ways.specs.declared.effort.Effort.{Effort}
use Rattle.jxl_encode_ways.specs.declared.effort.Effort.TheVariants as efforts
use Rattle.jxlenc.specs.Options.{IsName, IsNoName}
use Rattle.jxlenc.specs.declared.options.Options.{Options}

-- the effort that this word names; the usual one, if there is no word, or it names none
abbrev pub IsEffort : Option (List ℕ) → Effort → Type 0
IsEffort None effort = effort ≡ efforts.Usual
IsEffort (Some word) effort = IsName word effort ⊎ (IsNoName word × (effort ≡ efforts.Usual))

-- the options are those of this command line
pub record AreOptions (found : Found) (options : Options) : Type 0 where
  pub input : options.input.now ≡ unwrap_or (first_value found (codes "input")) []
  pub output : IsOutput (first_value found (codes "output")) (option_copied options.output)
  pub has_output : options.has_output ≡ is_some (first_value found (codes "output"))
  pub output_name : options.output_name.now ≡ unwrap_or (option_copied options.output) (codes "standard output")
  pub effort : IsEffort (first_value found (codes "effort")) options.effort
  pub boxed : IsFlag found (codes "container") options.boxed
  pub icc : option_copied options.paths.icc ≡ first_value found (codes "icc")
  pub exif : option_copied options.paths.exif ≡ first_value found (codes "exif")
  pub xmp : option_copied options.paths.xmp ≡ first_value found (codes "xmp")
  pub quiet : IsFlag found (codes "quiet") options.quiet
