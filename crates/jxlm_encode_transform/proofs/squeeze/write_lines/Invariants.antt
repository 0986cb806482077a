use Rattle.std.proofs.Common.{[], ◌∷◌}
use Rattle.jxlm_base.specs.Outside.{KeepsOutside}
use Rattle.jxlm_encode_transform.specs.Inner.Squeezed.{AreLines, number_of}
use Rattle.jxlm_encode_transform.proofs.squeeze.write_lines.Given as goal

abbrev pub invariant-loop-y : goal.invariant-loop-y
invariant-loop-y g l = record {
  lines : AreLines g.S.Sealed.to_int l.strip.width l.lines (number_of g.S.Sealed.to_int l.strip l.store) l.y;
  keeps : KeepsOutside (l.strip ∷ []) l.fn.store l.store;
}
