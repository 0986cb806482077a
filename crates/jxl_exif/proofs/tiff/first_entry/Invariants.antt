use Rattle.std.proofs.Common.{◌≡◌, ◌<◌, ℕ}
use Rattle.jxl_exif.specs.Tiff.{entry_of, u16_at}
use Rattle.jxl_exif.proofs.tiff.first_entry.Given as goal

abbrev pub invariant-loop-k : goal.invariant-loop-k
invariant-loop-k l = (j : ℕ) → j < l.k → u16_at l.order l.bytes (entry_of l.ifd j) ≡ l.tag → ⊥
