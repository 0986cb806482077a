use Rattle.std.proofs.Common.{◌≡◌, true, take}
use Rattle.std.specs.List.{list_all}
use Rattle.jxl_codestream.specs.Tocs.{is_within}
use Rattle.jxl_codestream.proofs.toc.Toc.truncated.Given as goal

abbrev pub invariant-loop-entry : goal.invariant-loop-entry
invariant-loop-entry l = record {
  k : l.k ≡ l.entry-index;
  before : list_all (is_within l.length) (take l.entry-index l.self.entries.items) ≡ true;
}
