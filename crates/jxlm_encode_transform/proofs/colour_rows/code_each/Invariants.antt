use Rattle.jxlm_lanes.specs.Colour.{coded_by}
use Rattle.jxlm_encode_transform.specs.Inner.ColourRows.{AreCoded, AreSampleRows}
use Rattle.jxlm_encode_transform.proofs.colour_rows.code_each.Given as goal

abbrev pub invariant-loop-i : goal.invariant-loop-i
invariant-loop-i g l = record {
  coded : AreCoded g.S.Sealed.to_int (coded_by g.S.Sealed.width l.ty) l.x l.y l.z l.a l.b l.c l.i;
  samples : AreSampleRows g.S.Sealed.to_int g.S.Sealed.width l.x l.y l.z l.i;
}
