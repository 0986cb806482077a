use Rattle.std.proofs.Common.{◌≡◌, ℕ, ◌+◌, ◌*◌, ◌^◌, ◌<◌, ◌≤◌, length, get_or, take}
use Rattle.std.specs.List.{sum}
use Rattle.jxl_codestream.specs.Inner.Entries.{entry_at}
use Rattle.jxl_codestream.specs.declared.toc.TocEntry.{TocEntry}
use Rattle.jxl_codestream.proofs.toc.as_they_stand.Given as goal

abbrev pub invariant-loop-size : goal.invariant-loop-size
invariant-loop-size l = record {
  count : length l.entries.items ≡ l.size-index;
  offset : l.offset ≡ l.start + sum (take l.size-index l.sizes);
  small : sum (take l.size-index l.sizes) ≤ l.size-index * 2 ^ 32;
  each : (k : ℕ) (entry : TocEntry) → k < l.size-index → get_or l.entries.items k entry ≡ entry_at l.start l.sizes k;
}
