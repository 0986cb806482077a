use Rattle.std.proofs.Common.{ℕ, ◌*◌, ◌<◌, FitsSigned, length}
use Rattle.jxlm_encode_transform.specs.Inner.Lines.{number_in, AreAverages}
use Rattle.jxlm_encode_transform.proofs.lines.put_averages.Given as goal

abbrev pub invariant-loop-k : goal.invariant-loop-k
invariant-loop-k g l = record {
  averages : AreAverages g.S.Sealed.to_int g.S.Sealed.width l.line l.averages l.k;
  samples : (i : ℕ) → i < 2 * l.k → i < length l.line → FitsSigned g.S.Sealed.width (number_in g.S.Sealed.to_int l.line i);
}
