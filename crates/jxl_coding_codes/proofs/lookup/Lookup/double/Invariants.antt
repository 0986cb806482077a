use Rattle.std.proofs.Common.{◌≡◌, ◌+◌, ◌≤◌, length}
use Rattle.std.specs.List.{All}
use Rattle.jxl_coding_codes.specs.Lookups.{AllTell}
use Rattle.jxl_coding_codes.proofs.lookup.Lookup.double.Given as goal

abbrev pub invariant-loop-other : goal.invariant-loop-other
invariant-loop-other l = record {
  many : length l.entries.items ≡ length l.fn.entries.items + l.other;
  tell : AllTell l.counts l.symbols l.start l.entries.items;
  short : All (λ entry. entry.length ≤ l.most) l.entries.items;
}
