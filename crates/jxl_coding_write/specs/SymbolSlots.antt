-- The slots of one symbol in a table (ISO/IEC 18181-1, entropy decoding: alias mapping).
use Rattle.std.specs.Prelude.{◌≡◌, ℕ, map, slice_index}
use Rattle.jxl_coding_write.specs.declared.slot_table.SlotTable.{SlotTable}
use Rattle.jxl_coding_write.specs.declared.slot_table.SymbolSlots.{SymbolSlots}

-- these are the slots that a table keeps of a symbol
pub record AreSlotsOf (table : SlotTable) (symbol : ℕ) (slots : SymbolSlots) : Type 0 where
  pub many : slots.count ≡ slice_index table.counts.items symbol
  pub first : slots.start ≡ slice_index (map (λ (s : SymbolSlots). s.start) table.symbols.items) symbol
