-- Why the output does not get the encoded picture, and the line that says so.
use Rattle.std.specs.Prelude.{◌≡◌, ℕ, List, ◌++◌, Bool, true, false, Option, Some, None, if◌then◌else◌, codes}
use Rattle.std.specs.declared.io.Error.{Error}
use Rattle.jxl_command.specs.Extras.{path_of}
use Rattle.jxl_command.specs.Shown.{shown_text}
use Rattle.jxl_command.specs.Streams.{is_closed, terminal_text}
use Rattle.jxl_command.specs.declared.extra.Extra.{Extra}
use Rattle.jxl_command.specs.declared.extra.Extra.TheVariants as extras
use Rattle.jxl_netpbm_read.specs.declared.error.NetpbmError.{NetpbmError}
use Rattle.jxl_netpbm_read.specs.declared.error.NetpbmError.TheVariants as pictures
use Rattle.jxlenc.specs.Reasons.{png_text}
use Rattle.jxlenc.specs.declared.failures.Failure.{Failure}
use Rattle.jxlenc.specs.declared.failures.Failure.TheVariants as failures
use Rattle.jxlenc.specs.declared.options.Options.{Options}
use Rattle.jxlenc.specs.declared.profile.ProfileError.{ProfileError}
use Rattle.jxlenc.specs.declared.profile.ProfileError.TheVariants as profiles

-- why a file is read as no netpbm picture
unfoldable pub picture_text : NetpbmError → List ℕ
picture_text pictures.Magic = codes "not a PNG, PGM, PPM, PAM or PFM file"
picture_text pictures.Truncated = codes "truncated"
picture_text pictures.InvalidHeader = codes "invalid header"
picture_text pictures.MissingLine = codes "invalid header: a line is missing"
picture_text pictures.Size = codes "a width or height of 0 or above 1073741824"
picture_text pictures.Maximum = codes "not supported: a maximum that is not 2^n - 1 with n from 1 to 16"
picture_text pictures.Channels = codes "not supported: channels of this type or number"
picture_text pictures.Sample = codes "a sample above the maximum"
picture_text pictures.OutOfMemory = codes "out of memory"

-- why a profile is not stored
unfoldable pub profile_text : ProfileError → List ℕ
profile_text profiles.Length = codes "a profile of 0 bytes or above 268435456"
profile_text profiles.Header = codes "not an ICC profile"
profile_text profiles.Size = codes "a profile whose header says another size"
profile_text profiles.Space = codes "a profile of another colour space than the picture's"

-- why the output does not get the encoded picture, in words; what the system says of its cause is not known, and not among them
unfoldable pub failure_text : Failure → List ℕ
failure_text (failures.Unreadable error) = codes "cannot read"
failure_text (failures.Picture error) = picture_text error
failure_text (failures.Png error) = png_text error
failure_text (failures.ExtraUnreadable extra error) = codes "cannot read"
failure_text (failures.Profile error) = profile_text error
failure_text failures.TooLarge = codes "a picture too large for one frame"
failure_text failures.OutOfMemory = codes "out of memory"
failure_text failures.Terminal = terminal_text
failure_text failures.Overwritten = codes "an input and this output are one file"
failure_text (failures.Unwritable error) = codes "cannot write"
failure_text failures.Closed = codes "a pipe that was closed"

-- the error of the system that is its cause, if one is
abbrev pub cause_of : Failure → Option Error
cause_of (failures.Unreadable error) = Some error
cause_of (failures.ExtraUnreadable extra error) = Some error
cause_of (failures.Unwritable error) = Some error
cause_of failure = None

-- the output is a closed pipe: nothing is said of that
abbrev pub is_silent : Failure → Bool
is_silent failures.Closed = true
is_silent failure = false

-- why the output cannot be written, by the error of a write
abbrev pub failure_of_write : Error → Failure
failure_of_write error = if is_closed error then failures.Closed else failures.Unwritable error

-- the failure is one of the output, and not of what is read
abbrev pub is_of_output : Failure → Bool
is_of_output failures.Terminal = true
is_of_output failures.Overwritten = true
is_of_output (failures.Unwritable error) = true
is_of_output failures.Closed = true
is_of_output failure = false

-- the output cannot be written; a closed pipe has a failure of its own
abbrev pub IsOfWriting : Failure → Type 0
IsOfWriting (failures.Unwritable error) = is_closed error ≡ false
IsOfWriting failures.Closed = Unit {0}
IsOfWriting failure = ⊥

-- These data for the file beside its picture are asked for, and reading them fails by an error.
pub record IsExtraUnread (wanted : Bool) (extra : Extra) (Unread : Error → Type 0) (failure : Failure) : Type 0 where
  pub error : Error
  pub is : failure ≡ failures.ExtraUnreadable extra error
  pub asked : wanted ≡ true
  pub unread : Unread error

-- the name of what fails: of where other data are read, of the output, or of the picture
abbrev pub subject : Options → Failure → List ℕ
subject options (failures.ExtraUnreadable extra error) = path_of options.paths extra
subject options (failures.Profile error) = path_of options.paths extras.Profile
subject options failure = if is_of_output failure then options.output_name.now else options.input.now

-- the words of the line on a failure of what has this name, in which control characters are written by their codes, before its cause
abbrev pub failure_line : List ℕ → Failure → List ℕ
failure_line name failure = codes "jxlenc: " ++ (shown_text name ++ (codes ": " ++ failure_text failure))
