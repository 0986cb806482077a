use Rattle.std.proofs.Common.{◌≡◌, length}
use Rattle.jxl_coding_codes.proofs.CodewordReads.{up_to}
use Rattle.jxl_coding_codes.proofs.SortedSymbols.{Count, blocks}
use Rattle.jxl_coding_codes.proofs.lengths.sorted_symbols.Given as goal

abbrev pub invariant-loop-symbol : goal.invariant-loop-symbol
invariant-loop-symbol l = record {
  symbols : l.symbols.items ≡ blocks l.lengths l.symbol 15;
  long : length l.places ≡ 15;
  places : Count l.lengths (up_to l.lengths) l.symbol l.places;
}
