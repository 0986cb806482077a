-- What was read of an input, and why it is no picture.
use Rattle.std.proofs.Common.{◌≡◌, ℕ, ◌^◌, ◌<◌, ◌≤◌, List, ◌++◌, length, Option, inl, inr, arith}
use Rattle.std.specs.Prelude.{◌⊎◌}
use Rattle.std.specs.Io.KnownBytes.{Consumes}
use Rattle.std.proofs.KnownBytes.{Consumes-trans}
use Rattle.std.proofs.lemmas.Bool.{cases_lt}
use Rattle.jxl_command.specs.Streams.{IsReadPart}

-- all of it, or as many bytes as were asked for
pub ended_or : (n : ℕ) (End : Type 0) → (n < 65536 → End) → End ⊎ (2 ^ 16 ≤ n)
ended_or n End short = elim (cases_lt n 65536) [ inl lt ↦ inl (short lt) | inr le ↦ inr le ]

-- a part of it after another
pub part_after : (left between rest : Option (List ℕ)) (start : List ℕ) → Consumes left between start → IsReadPart between rest → IsReadPart left rest
part_after left between rest start first next = record { part = start ++ next.part; read = Consumes-trans left between rest start next.part first next.read }
