-- How the program ends.
use Rattle.std.specs.Prelude.{ℕ, List, Option}
use Rattle.std.specs.Io.KnownBytes.{Appends, Consumes, IsAtEnd}
use Rattle.jxlmod_commands.specs.Arguments.{IsIdle}
use Rattle.jxlmod_commands.specs.declared.arguments.Command.{Command}
use Rattle.jxlmod_commands.specs.declared.run.Failure.{Failure}
use Rattle.jxlmod_commands.specs.declared.run.Failure.TheVariants.{WrongArguments, Unreadable, Refused, Unwritable}

-- the status with which the program ends after a failure
abbrev pub status_of : Failure → ℕ
status_of WrongArguments = 2
status_of Unreadable = 1
status_of (Refused e) = 1
status_of Unwritable = 1

-- the input was read to its end, from left to rest; the output, which held `held`, holds bytes made of it after these
pub record IsPrinted (prints : List ℕ → List ℕ → Type 0) (left rest held holds : Option (List ℕ)) : Type 0 where
  pub bytes : List ℕ
  pub made : List ℕ
  pub read : Consumes left rest bytes
  pub ended : IsAtEnd rest
  pub printed : prints bytes made
  pub written : Appends held holds made

-- a command that is not idle is asked for; of the input, which was left, these bytes were read, and rest comes after them
pub record IsPartlyRead (asks : Command → Type 0) (left rest : Option (List ℕ)) : Type 0 where
  pub command : Command
  pub asked : asks command
  pub some : ¬ (IsIdle command)
  pub bytes : List ℕ
  pub read : Consumes left rest bytes
