use Rattle.std.proofs.Common.{◌≤◌}
use Rattle.std.specs.List.{All}
use Rattle.jxl_coding_codes.specs.Lookups.{AllTell}
use Rattle.jxl_coding_codes.proofs.lookup.Lookup.new.Given as goal

abbrev pub invariant-loop : goal.invariant-loop
invariant-loop l = record {
  tell : AllTell l.counts l.symbols l.start l.entries.items;
  short : All (λ entry. entry.length ≤ l.width) l.entries.items;
}
