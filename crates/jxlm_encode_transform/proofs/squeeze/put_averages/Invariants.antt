use Rattle.std.proofs.Common.{ℕ, ◌*◌, ◌<◌, FitsSigned}
use Rattle.jxlm_encode_transform.specs.Inner.Squeezed.{AreLines, average_of, number_of}
use Rattle.jxlm_encode_transform.proofs.squeeze.put_averages.Given as goal

abbrev pub invariant-loop-k : goal.invariant-loop-k
invariant-loop-k g l = record {
  averages : AreLines g.S.Sealed.to_int l.strip.width l.averages (average_of g.S.Sealed.to_int g.S.Sealed.width l.strip l.store) l.k;
  samples : (x : ℕ) → x < l.strip.width → (y : ℕ) → y < 2 * l.k → y < l.strip.height → FitsSigned g.S.Sealed.width (number_of g.S.Sealed.to_int l.strip l.store x y);
}
