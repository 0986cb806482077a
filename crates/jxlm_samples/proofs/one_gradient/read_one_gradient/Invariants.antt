use Rattle.std.proofs.Common.{false, ◌≡◌, ◌-◌, ◌≤◌, map, length}
use Rattle.jxlm_bits.specs.Bits.{bytes_of}
use Rattle.jxlm_samples.specs.Inner.Paths.{gradient_rule}
use Rattle.jxlm_samples.specs.Inner.Rows.{ReadsCells}
use Rattle.jxlm_samples.specs.declared.gradient.Leaves.TheVariants.{One}
use Rattle.jxlm_samples.proofs.one_gradient.read_one_gradient.Given as goal

abbrev pub invariant-loop-x : goal.invariant-loop-x
invariant-loop-x g l = record {
  len : length l.row ≡ length l.fn.row;
  room : length l.room ≡ 64;
  within : l.x ≤ length l.row;
  reads : ReadsCells g.D.Decoder.meaning 0 (gradient_rule g.D.Decoder.meaning g.S.Sealed.width false (bytes_of l.fn.source.bits) l.widest (One l.leaf) (map g.S.Sealed.to_int l.above)) (map g.S.Sealed.to_int l.row) l.x l.fn.source l.source;
}

abbrev pub decreases-loop-x : goal.decreases-loop-x
decreases-loop-x g l = length l.row - l.x
