-- All pictures of a file, each in an output of its own (`--frames`).
use Rattle.std.specs.Prelude.{◌≡◌, ℕ, List, [], ◌∷◌, ◌++◌, length, MatchBool, true, false, Option, Some, None, codes, string_bytes}
use Rattle.std.specs.Fmt.{decimal}
use Rattle.std.specs.declared.io.Error.{Error}
use Rattle.jxl_animation.specs.Files.{HasFewerFrames}
use Rattle.jxl_command.specs.Shown.{shown_text}
use Rattle.jxl_container.specs.Files.{HasLaterError}
use Rattle.jxl_container.specs.declared.error.FileError.{FileError as BoxError}
use Rattle.jxl_frame_names.specs.Names.{name_of}
use Rattle.jxl_frame_names.specs.declared.pattern.NamePattern.{NamePattern}
use Rattle.jxl_picture.specs.declared.limits.Limits.{Limits}
use Rattle.jxldec_lines.specs.Failures.{IsOfWriting, Reports, cause_of, failure_text, is_silent}
use Rattle.jxldec_lines.specs.Losses.{has_loss}
use Rattle.jxldec_lines.specs.Warnings.{one_frame, warnings}
use Rattle.jxldec_lines.specs.declared.failures.Failure.{Failure}
use Rattle.jxldec_lines.specs.declared.failures.Failure.TheVariants as failures
use Rattle.jxldec_lines.specs.declared.format.OutputFormat.{OutputFormat}
use Rattle.jxldec_lines.specs.declared.loss.Loss.{Loss}
use Rattle.jxldec.specs.Pages.{AppendsPages, Page}
use Rattle.jxldec.specs.Texts.{FrameTextFails, IsTextOfFrame, ReadingFails}
use Rattle.jxldec.specs.declared.frames.At.{At}
use Rattle.jxldec.specs.declared.frames.At.TheVariants as places
use Rattle.jxldec.specs.declared.frames.FramesFailure.{FramesFailure}
use Rattle.jxldec_options.specs.declared.options.Options.{Options}

module _ (limits : Limits) (file : List ℕ) (asked : Option OutputFormat) (pattern : NamePattern) where
  -- These are the pages of the first pictures of a file, which are numbered from 0 on: each has the name of its number, and holds the
  -- text of its picture.
  pub data ArePages (others : List ℕ) (loss : Loss) : List Page → Type 0 where
    NoPage : ArePages others loss []
    NextPage : (pages : List Page) (page : Page) → ArePages others loss pages → page.name ≡ name_of pattern (length pages) →
        IsTextOfFrame limits file (length pages) asked page.bytes others loss → ArePages others loss (pages ++ page ∷ [])

  -- All pictures of the file were written so, after what was old.
  pub record AddsAllPages (old new : Option (List Page)) (others : List ℕ) (loss : Loss) : Type 0 where
    pub pages : List Page
    pub are : ArePages others loss pages
    pub all : HasFewerFrames limits file (length pages)
    pub appended : AppendsPages old new pages

  -- what is wrong with the next picture, after this number of others: with the file, before its pictures; with the picture; or with its
  -- output, which cannot be written
  abbrev pub FailsAt : ℕ → At → Failure → Type 0
  FailsAt count places.File failure = (count ≡ 0) × FrameTextFails limits file 0 asked failure
  FailsAt count (places.Frame number) failure = (number ≡ count) × FrameTextFails limits file number asked failure
  FailsAt count (places.Output name) failure = (string_bytes name ≡ name_of pattern count) × IsOfWriting failure

  -- The pictures before the one that fails were written so.
  pub record AddsPagesBefore (old new : Option (List Page)) (f : FramesFailure) : Type 0 where
    pub pages : List Page
    pub others : List ℕ
    pub loss : Loss
    pub are : ArePages others loss pages
    pub fails : FailsAt (length pages) f.at f.failure
    pub appended : AppendsPages old new pages

-- what is wrong with the output of a picture of which the text was made
abbrev pub IsOfPage : NamePattern → ℕ → At → Failure → Type 0
IsOfPage pattern number places.File failure = ⊥
IsOfPage pattern number (places.Frame n) failure = (n ≡ number) × (failure ≡ failures.OutOfMemory)
IsOfPage pattern number (places.Output name) failure = (string_bytes name ≡ name_of pattern number) × IsOfWriting failure

abbrev pub PageFails : NamePattern → ℕ → FramesFailure → Type 0
PageFails pattern number f = IsOfPage pattern number f.at f.failure

-- What a line names as what a failure is about, of a file of this name: the file, one of its pictures, or an output. Control characters
-- of names are written by their codes.
unfoldable pub subject_at : List ℕ → At → List ℕ
subject_at name places.File = shown_text name
subject_at name (places.Frame number) = shown_text name ++ codes ": frame " ++ decimal number
subject_at name (places.Output output) = shown_text (string_bytes output)

-- the words of the line on a failure there, before its cause
abbrev pub frames_line : List ℕ → At → Failure → List ℕ
frames_line name place failure = codes "jxldec: " ++ (subject_at name place ++ (codes ": " ++ failure_text failure))

-- standard error gets that line; of a closed pipe nothing is said
abbrev pub ReportsAt : List ℕ → At → Failure → Type 0 → (Option Error → List ℕ → Type 0) → Type 0
ReportsAt name place failure Silent Gets = MatchBool (is_silent failure) Silent (Gets (cause_of failure) (frames_line name place failure))

-- The outputs get all pictures of a file, and standard error the lines that warn of what is left out, and of the error after the
-- codestream, unless nothing but errors is to be printed; it gets nothing then, nor where there is nothing to warn of.
pub record WritesAllFrames (options : Options) (pattern : NamePattern) (file : List ℕ) (old new : Option (List Page)) (Gets : List ℕ → Type 0) (Silent : Type 0) : Type 0 where
  pub others : List ℕ
  pub loss : Loss
  pub error : Option BoxError
  pub written : AddsAllPages options.limits file options.format pattern old new others loss
  pub later : HasLaterError file error
  pub gets : Gets (warnings options.quiet options.input.now others loss one_frame error)
  pub kept : options.quiet ≡ true → Silent
  pub none : others ≡ [] → has_loss loss ≡ false → error ≡ None → Silent

-- The outputs get the pictures of a file before the one that fails, and standard error the line of this failure.
pub record WritesSomeFrames (options : Options) (pattern : NamePattern) (old new : Option (List Page)) (Silent : Type 0) (Gets : Option Error → List ℕ → Type 0) (file : List ℕ) : Type 0 where
  pub failed : FramesFailure
  pub written : AddsPagesBefore options.limits file options.format pattern old new failed
  pub reports : ReportsAt options.input.now failed.at failed.failure Silent Gets

-- The input is not read to its end, by this failure; no output gets anything, and standard error gets the line of this failure.
pub record WritesNoFrame (options : Options) (left rest : Option (List ℕ)) (Unread : Error → Type 0) (Stays Silent : Type 0) (Gets : Option Error → List ℕ → Type 0) : Type 0 where
  pub failure : Failure
  pub why : ReadingFails left rest Unread failure
  pub stays : Stays
  pub reports : Reports options.input.now failure Silent Gets

-- the words of the line on a name that is no pattern
unfoldable pub pattern_line : List ℕ → List ℕ
pattern_line name = codes "error: invalid value '" ++ shown_text name ++ codes "' for '--frames <PATTERN>': it needs one %d, or one %0Nd with N from 1 to 9"
