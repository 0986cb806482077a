-- What is known of the input where the program fails.
use Rattle.std.specs.Prelude.{ℕ, List, Option}
use Rattle.std.specs.Io.KnownBytes.{Consumes, IsAtEnd}
use Rattle.jxlmod_commands.specs.declared.arguments.Command.{Command}

-- the input was read to its end, from left to rest, and its bytes, for a command, have this property
pub record IsReadWhole (holds : Command → List ℕ → Type 0) (left rest : Option (List ℕ)) : Type 0 where
  pub command : Command
  pub bytes : List ℕ
  pub read : Consumes left rest bytes
  pub ended : IsAtEnd rest
  pub held : holds command bytes
