-- What a writer holds after a write that fails.
use Rattle.std.specs.Prelude.{◌≡◌, ◌≤◌, ℕ, List, ◌++◌, length, Option}
use Rattle.std.specs.Io.KnownBytes.{Appends}
use Rattle.std.specs.declared.io.Error.{Error}
use Rattle.jxl_netpbm.specs.declared.output.WriteError.{WriteError}
use Rattle.jxl_netpbm.specs.declared.output.WriteError.TheVariants.{OutOfMemory, Writer}

-- The bytes that a writer holds, if they are known, grew by a beginning of a text, and by nothing else.
pub record AppendsBeginning (held holds : Option (List ℕ)) (text : List ℕ) : Type 0 where
  pub part : List ℕ
  pub rest : List ℕ
  pub appended : Appends held holds part
  pub whole : text ≡ part ++ rest

-- They grew by a beginning of a text that is not all of it, and by nothing else.
pub record AppendsLess (held holds : Option (List ℕ)) (text : List ℕ) : Type 0 where
  pub part : List ℕ
  pub rest : List ℕ
  pub appended : Appends held holds part
  pub whole : text ≡ part ++ rest
  pub left : 1 ≤ length rest

-- an error of a writer is one by which it fails
abbrev pub IsWriters : (Error → Type 0) → WriteError → Type 0
IsWriters fails_by OutOfMemory = Unit {0}
IsWriters fails_by (Writer e) = fails_by e
