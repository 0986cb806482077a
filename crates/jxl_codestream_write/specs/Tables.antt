-- Tables of contents that were written (ISO/IEC 18181-1, frame: table of contents).
use Rattle.std.specs.Prelude.{ℕ, ◌*◌, List, [], ◌++◌, length, Bool}
use Rattle.jxlm_bits.specs.Grammar.{Grammar}
use Rattle.jxlm_bits.specs.declared.bits.U32Spec.TheVariants.{Offset}
use Rattle.jxlm_bit_writer.specs.Fields.{is_spelled}
use Rattle.jxlm_bit_writer.specs.Written.{HasBits}
use Rattle.jxl_codestream.specs.Fronts.{StandsAt}
use Rattle.jxl_codestream.specs.Tocs.{Table}

-- a size of a section that a table can have
abbrev pub is_section_size : ℕ → Bool
is_section_size size = is_spelled (Offset 0 10) (Offset 1024 14) (Offset 17408 22) (Offset 4211712 30) size

-- The bytes begin with these bits. Whatever follows the bytes, the reader finds this value after the bits, and it ends where the
-- bytes end.
pub record Completes {X : Type 0} (bits bytes : List ℕ) (field : Grammar X) (x : X) : Type 0 where
  pub begins : HasBits bytes 0 bits
  pub stands : (rest : List ℕ) → StandsAt field (bytes ++ rest) (length bits) x (8 * length bytes)

-- the table of sections of these sizes in their own order, the first at this byte
abbrev pub table_of : List ℕ → ℕ → Table
table_of sizes start = record { code = []; sizes = sizes; start = start }
