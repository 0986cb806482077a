use Rattle.std.proofs.Common.{◌≡◌, ℕ, ◌<◌, length, get_or}
use Rattle.std.specs.Prelude.{slice_index}
use Rattle.jxl_codestream.specs.declared.toc.TocEntry.{TocEntry}
use Rattle.jxl_codestream.proofs.toc.by_number.Given as goal

abbrev pub invariant-loop-place : goal.invariant-loop-place
invariant-loop-place l = record {
  count : length l.entries.items ≡ l.place-index;
  entries : (i : ℕ) (entry : TocEntry) → i < l.place-index → get_or l.entries.items i entry ≡ get_or l.stand (slice_index l.order i) entry;
}
