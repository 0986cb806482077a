use Rattle.std.proofs.Common.{◌≡◌, ◌-◌, ◌≤◌, map, length}
use Rattle.jxlm_bits.specs.Bits.{bytes_of}
use Rattle.jxlm_samples.specs.Inner.LeafRows.{rule_below}
use Rattle.jxlm_samples.specs.Inner.Rows.{ReadsCells}
use Rattle.jxlm_samples.proofs.one_leaf.leaf_cells.Given as goal

abbrev pub invariant-loop-x : goal.invariant-loop-x
invariant-loop-x g l = record {
  len : length l.row ≡ length l.fn.row;
  room : length l.room ≡ 64;
  within : l.x ≤ length l.row;
  reads : ReadsCells g.D.Decoder.meaning 0 (rule_below g.S.Sealed.to_int g.S.Sealed.width l.leaf l.above g.D.Decoder.meaning (bytes_of l.fn.source.bits) l.widest) (map g.S.Sealed.to_int l.row) l.x l.fn.source l.source;
}

abbrev pub decreases-loop-x : goal.decreases-loop-x
decreases-loop-x g l = length l.row - l.x
