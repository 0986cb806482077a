use Rattle.std.proofs.Common.{◌≡◌, take}
use Rattle.jxl_coding_fields_write.specs.CountWidths.{count_widths}
use Rattle.jxl_coding_fields_write.proofs.counts.widest_of.Given as goal

abbrev pub invariant-loop-i : goal.invariant-loop-i
invariant-loop-i l = record {
  most : l.most ≡ (count_widths (take l.i l.counts)).most;
  widest : l.widest ≡ (count_widths (take l.i l.counts)).widest;
}
