use Rattle.std.proofs.Common.{◌≡◌, ◌==◌, not, length}
use Rattle.jxlm_samples.proofs.GradientCells.{ReadsBelow}
use Rattle.jxlm_samples.proofs.gradient.read_below.Given as goal

abbrev pub invariant-loop-x : goal.invariant-loop-x
invariant-loop-x g l = record {
  len : length l.row ≡ length l.fn.row;
  below : ReadsBelow g.D.Decoder.meaning g.S.Sealed.width g.S.Sealed.to_int (not (g.row.CLAMPED == 0)) l.leaves l.widest l.above l.fn.source l.row l.x l.w l.nw (record l.source { bits = l.reader });
}
