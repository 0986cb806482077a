-- The bits of a symbol of a cluster (ISO/IEC 18181-1, entropy decoding: symbol decoding).
use Rattle.std.specs.Prelude.{◌≡◌, ℕ, ◌/◌, ◌^◌, Option, Some, None}
use Rattle.jxl_coding_codes.specs.Alias.{buckets_of}
use Rattle.jxl_coding_codes.specs.Distributions.{whole}
use Rattle.jxl_coding_write.specs.Places.{Leads}
use Rattle.jxl_coding_write.specs.declared.slot_table.SlotTable.{SlotTable}

-- From the state before, the decoder reads a symbol of the cluster and is in the state after: an only symbol keeps the
-- state, another leads to it by its slot and the bits that follow.
abbrev pub SymbolLeads : SlotTable → Option ℕ → ℕ → ℕ → ℕ → ℕ → ℕ → Type 0
SymbolLeads slots (Some only) symbol before after count value = (only ≡ symbol) × (before ≡ after) × (count ≡ 0)
SymbolLeads slots None symbol before after count value = Leads (buckets_of slots.counts.items slots.log) (whole / 2 ^ slots.log) symbol before after count value
