use Rattle.jxlm_lanes.specs.Squeeze.{average, AreSame, AreSamples}
use Rattle.jxlm_encode_transform.specs.Inner.Lines.{number_in}
use Rattle.jxlm_encode_transform.proofs.strips.average_lines.Given as goal

abbrev pub invariant-loop-j : goal.invariant-loop-j
invariant-loop-j g l = record {
  averages : AreSame l.j (number_in g.S.Sealed.to_int l.averages) (λ i. average g.S.Sealed.width (number_in g.S.Sealed.to_int l.first i) (number_in g.S.Sealed.to_int l.second i));
  first_samples : AreSamples g.S.Sealed.width l.j (number_in g.S.Sealed.to_int l.first);
  second_samples : AreSamples g.S.Sealed.width l.j (number_in g.S.Sealed.to_int l.second);
}
