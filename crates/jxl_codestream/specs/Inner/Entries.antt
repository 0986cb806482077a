-- Tables in memory, and sections as they stand.
use Rattle.std.specs.Prelude.{◌≡◌, ℕ, ◌+◌, ◌/◌, ◌<◌, List, length, get_or, take, sum, slice_index}
use Rattle.jxlm_bits.specs.Grammar.{Grammar, u32, give, repeated, ◌>>=◌}
use Rattle.jxlm_bits.specs.declared.bits.U32Spec.TheVariants.{Offset}
use Rattle.jxl_image_header.specs.Fields.{here, zero_pad_to_byte}
use Rattle.jxl_codestream.specs.Tocs.{Table}
use Rattle.jxl_codestream.specs.declared.toc.Table.{Table as TableInMemory}
use Rattle.jxl_codestream.specs.declared.toc.TocEntry.{TocEntry}

-- a table, seen without its memory
abbrev pub table_of : TableInMemory → Table
table_of t = record { code = t.code.items; sizes = t.sizes.items; start = t.start }

-- the size of a section, and what follows the code of a table
abbrev pub entry_size : Grammar ℕ
entry_size = u32 (Offset 0 10) (Offset 1024 14) (Offset 17408 22) (Offset 4211712 30)

abbrev pub sizes : List ℕ → ℕ → Grammar Table
sizes code n = do
  u ← zero_pad_to_byte
  sizes ← repeated n entry_size
  v ← zero_pad_to_byte
  p ← here
  give (record { code = code; sizes = sizes; start = p / 8 })

-- the section that stands at a place behind those before it, the first at this byte
abbrev pub entry_at : ℕ → List ℕ → ℕ → TocEntry
entry_at start sizes place = record { offset = start + sum (take place sizes); size = slice_index sizes place }

-- sections of these sizes stand one behind another from this byte on
pub record AreEntries (start : ℕ) (sizes : List ℕ) (entries : List TocEntry) : Type 0 where
  pub count : length entries ≡ length sizes
  pub each : (k : ℕ) (entry : TocEntry) → k < length entries → get_or entries k entry ≡ entry_at start sizes k
