use Rattle.std.proofs.Common.{◌≡◌, ◌-◌, ◌≤◌, map, length}
use Rattle.jxlm_bits.specs.Bits.{bytes_of}
use Rattle.jxlm_samples.specs.Inner.Paths.{zero_rule}
use Rattle.jxlm_samples.specs.Inner.Rows.{ReadsCells}
use Rattle.jxlm_samples.proofs.zeros.zero_cells.Given as goal

abbrev pub invariant-loop-x : goal.invariant-loop-x
invariant-loop-x g l = record {
  len : length l.row ≡ length l.fn.row;
  room : length l.room ≡ 64;
  within : l.x ≤ length l.row;
  reads : ReadsCells g.D.Decoder.meaning 0 (zero_rule g.D.Decoder.meaning g.S.Sealed.width (bytes_of l.fn.source.bits) l.widest l.leaf) (map g.S.Sealed.to_int l.row) l.x l.fn.source l.source;
}

abbrev pub decreases-loop-x : goal.decreases-loop-x
decreases-loop-x g l = length l.row - l.x
