use Rattle.std.proofs.Common.{◌≤◌}
use Rattle.jxlm_predictor.specs.Standing.{HasSameRoom}
use Rattle.jxlm_encode_tokens.specs.Inner.Walks.{IsAtToken}
use Rattle.jxlm_encode_tokens.proofs.rows.cell_tokens.Given as goal

abbrev pub invariant-loop-x : goal.invariant-loop-x
invariant-loop-x g l = record {
  from : l.from ≤ l.x;
  at : IsAtToken l.line g.T.TokenForm.form g.S.Sealed.width g.S.Sealed.to_int l.x l.out l.walk.state;
  room : HasSameRoom l.fn.walk.state l.walk.state;
}
