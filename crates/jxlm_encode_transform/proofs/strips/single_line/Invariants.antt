use Rattle.jxlm_lanes.specs.Squeeze.{AreSame, AreSamples}
use Rattle.jxlm_encode_transform.specs.Inner.Lines.{number_in}
use Rattle.jxlm_encode_transform.proofs.strips.single_line.Given as goal

abbrev pub invariant-loop-j : goal.invariant-loop-j
invariant-loop-j g l = record {
  same : AreSame l.j (number_in g.S.Sealed.to_int l.averages) (number_in g.S.Sealed.to_int l.line);
  samples : AreSamples g.S.Sealed.width l.j (number_in g.S.Sealed.to_int l.line);
}
