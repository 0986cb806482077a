-- How adding sections of an input fails.
use Rattle.std.specs.Prelude.{◌≡◌, ℕ, List}
use Rattle.jxlm_bits.specs.ErrorKind.{Eof, UnlessNoMemory, kind_of}
use Rattle.jxlm_bits.specs.declared.error.Error.{Error}
use Rattle.jxlm_section_split.specs.CutErrors.{EndsEarly}

-- adding n sections fails: one of them is truncated, or it is out of memory
abbrev pub AddingFails : ℕ → List ℕ → Error → Type 0
AddingFails n left e = UnlessNoMemory (kind_of e) ((kind_of e ≡ Eof) × EndsEarly n left)
