-- The table of contents of a frame (ISO/IEC 18181-1, frame: table of contents).
use Rattle.std.specs.Prelude.{◌≡◌, ℕ, ◌+◌, ◌*◌, ◌/◌, ◌≤◌, List, [], length, take, sum, nat_lt, nat_le, Bool, true, false, if◌then◌else◌, Some, Result, Ok, Err, slice_index, slice_get, map}
use Rattle.std.specs.List.{list_all}
use Rattle.jxlm_bits.specs.Decoding.{Found, Meaning}
use Rattle.jxlm_bits.specs.ErrorKind.{Eof, ErrorAt, UnlessMemory, kind_of}
use Rattle.jxlm_bits.specs.Grammar.{Grammar, IsErrorAt, flag, u32, give, repeated, ◌>>=◌}
use Rattle.jxlm_bits.specs.declared.bits.U32Spec.TheVariants.{Offset}
use Rattle.jxlm_bits.specs.declared.error.Error.{Error}
use Rattle.jxl_image_header.specs.Fields.{here, zero_pad_to_byte, when}
use Rattle.jxl_codestream.specs.Orders.{IsOrder, lehmer_code}
use Rattle.jxl_codestream.specs.declared.toc.TocEntry.{TocEntry}
use Rattle.jxl_codestream.specs.declared.toc.Toc.{Toc}

-- What the table says: the Lehmer code of the order in which sections stand (none where they stand in their own), the sizes of
-- the sections in bytes, as they stand, and the byte where the first begins.
pub record Table : Type 0 where
  pub code : List ℕ
  pub sizes : List ℕ
  pub start : ℕ

-- n bits more are there
abbrev pub room : ℕ → Grammar (Unit {0})
room n = record {
  read = λ bytes p. if nat_lt (8 * length bytes) (p + n) then Err (record { error = Eof; position = Some p }) else Ok (record { value = tt; position = p });
  Stands = λ bytes p u q. (p + n ≤ 8 * length bytes) × (q ≡ p);
}

-- The table of n sections. Each size takes 12 bits at least: where fewer are there, the table is truncated.
abbrev pub toc : {S : Type 0} → Meaning S → ℕ → Grammar Table
toc d n = do
  u ← room (12 * n)
  permuted ← flag
  code ← when permuted (lehmer_code d n) []
  v ← zero_pad_to_byte
  sizes ← repeated n (u32 (Offset 0 10) (Offset 1024 14) (Offset 17408 22) (Offset 4211712 30))
  w ← zero_pad_to_byte
  p ← here
  give (record { code = code; sizes = sizes; start = p / 8 })

-- Sections by their number: each stands at the place that the order of the table tells, behind those that stand before it.
pub record IsToc (table : Table) (entries : List TocEntry) : Type 0 where
  pub order : List ℕ
  pub is_order : IsOrder table.code (length table.sizes) order
  pub entries_are : entries ≡ map (λ place. record { offset = table.start + sum (take place table.sizes); size = slice_index table.sizes place }) order

-- What reading a table returned, and where it left the reader.
abbrev pub TocReads : Result Toc Error → ℕ → Result (Found Table) ErrorAt → Type 0
TocReads (Ok toc) q reading = (table : Table) × (reading ≡ Ok (record { value = table; position = q })) × IsToc table toc.entries.items
TocReads (Err e) q reading = UnlessMemory (kind_of e) (IsErrorAt reading (kind_of e) q)

-- a section lies within this number of bytes
abbrev pub is_within : ℕ → TocEntry → Bool
is_within length entry = nat_le (entry.offset + entry.size) length

-- Section k is the first, by number, that does not lie within this number of bytes.
pub record IsFirstTruncated (length : ℕ) (entries : List TocEntry) (k : ℕ) : Type 0 where
  pub entry : TocEntry
  pub there : slice_get entries k ≡ Some entry
  pub passes : is_within length entry ≡ false
  pub before : list_all (is_within length) (take k entries) ≡ true
