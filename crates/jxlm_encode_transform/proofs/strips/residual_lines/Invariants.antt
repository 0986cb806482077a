use Rattle.std.proofs.Common.{◌-ℤ◌}
use Rattle.std.specs.Int.{int_wrap}
use Rattle.jxlm_lanes.specs.Squeeze.{difference, tendency, AreSame}
use Rattle.jxlm_encode_transform.specs.Inner.Lines.{number_in}
use Rattle.jxlm_encode_transform.proofs.strips.residual_lines.Given as goal

abbrev pub invariant-loop-j : goal.invariant-loop-j
invariant-loop-j g l =
    AreSame l.j (number_in g.S.Sealed.to_int l.residuals) (λ i. int_wrap g.S.Sealed.width (difference g.S.Sealed.width (number_in g.S.Sealed.to_int l.first i) (number_in g.S.Sealed.to_int l.second i) -ℤ tendency (number_in g.S.Sealed.to_int l.before i) (number_in g.S.Sealed.to_int l.averages i) (number_in g.S.Sealed.to_int l.next i)))
