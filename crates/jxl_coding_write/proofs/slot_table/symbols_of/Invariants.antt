use Rattle.std.proofs.Common.{◌≡◌, ℕ, ◌<◌, take, slice_index}
use Rattle.std.specs.List.{sum}
use Rattle.jxl_coding_write.proofs.SymbolLists.{counts_in, starts_in}
use Rattle.jxl_coding_write.proofs.slot_table.symbols_of.Given as goal

abbrev pub invariant-loop-count : goal.invariant-loop-count
invariant-loop-count l = record {
  counts : counts_in l.symbols.items ≡ take l.count-index l.counts;
  each : (k : ℕ) → k < l.count-index → slice_index (starts_in l.symbols.items) k ≡ sum (take k l.counts);
  total : l.before ≡ sum (take l.count-index l.counts);
}
