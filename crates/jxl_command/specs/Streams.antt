-- What a program does with its input, its outputs and standard error.
use Rattle.std.specs.Prelude.{◌≡◌, ℕ, List, [], ◌++◌, Bool, true, false, Option, Some, None, MatchBool, codes}
use Rattle.std.specs.Io.KnownBytes.{Appends, Consumes, IsAtEnd}
use Rattle.std.specs.IoError.{error_kind}
use Rattle.std.specs.declared.io.Error.{Error}
use Rattle.std.specs.declared.io.ErrorKind.{ErrorKind}
use Rattle.std.specs.declared.io.ErrorKind.TheVariants.{BrokenPipe}

-- The input was read to its end, from left to rest, and what was read has this property.
pub record IsReadWhole (left rest : Option (List ℕ)) (holds : List ℕ → Type 0) : Type 0 where
  pub file : List ℕ
  pub read : Consumes left rest file
  pub ended : IsAtEnd rest
  pub is : holds file

-- an output, which held `held`, holds these bytes after that, and has passed them on; without bytes it stays as it was
abbrev pub IsKept : Option (List ℕ) → Option (List ℕ) → Option (List ℕ) → Type 0 → Type 0 → Type 0
IsKept (Some bytes) held holds Flushed Stays = Appends held holds bytes × Flushed
IsKept None held holds Flushed Stays = Stays

-- A part of the input was read, from left to rest.
pub record IsReadPart (left rest : Option (List ℕ)) : Type 0 where
  pub part : List ℕ
  pub read : Consumes left rest part

-- a writer, which held `held`, holds after it the bytes of a text, or, if these are not known, some bytes
abbrev pub IsPut : Option (List ℕ) → Option (List ℕ) → Option (List ℕ) → Type 0
IsPut (Some text) held holds = Appends held holds text
IsPut None held holds = (bytes : List ℕ) × Appends held holds bytes

-- standard error, which held `held`, holds the text after that; or a write to it failed
abbrev pub IsReported : Bool → Option (List ℕ) → Option (List ℕ) → Type 0 → List ℕ → Type 0
IsReported reported held holds Failed text = MatchBool reported (Appends held holds text) Failed

-- the error of a write is that the output is a pipe that was closed
abbrev pub is_closed_kind : ErrorKind → Bool
is_closed_kind BrokenPipe = true
is_closed_kind kind = false

abbrev pub is_closed : Error → Bool
is_closed error = is_closed_kind (error_kind error)

-- what follows the words of a line: after a colon what the system says of the error that is their cause, if present
abbrev pub IsCause : Option Error → List ℕ → Type 0
IsCause None end = end ≡ []
IsCause (Some error) end = (said : List ℕ) × (end ≡ codes ": " ++ said)

-- Standard error, which held `held`, holds after it the line of these words and of their cause; or a write to it failed.
pub record IsReportedLine (reported : Bool) (held holds : Option (List ℕ)) (Failed : Type 0) (cause : Option Error) (words : List ℕ) : Type 0 where
  pub end : List ℕ
  pub caused : IsCause cause end
  pub is : IsReported reported held holds Failed (words ++ (end ++ codes "\n"))

-- why nothing is written to a terminal that was not asked for
unfoldable pub terminal_text : List ℕ
terminal_text = codes "a terminal; -o OUT writes to a file, -o - to standard output"

-- the line of a program that has no memory for its command line
unfoldable pub memory_line : List ℕ → List ℕ
memory_line program = program ++ codes ": out of memory"
