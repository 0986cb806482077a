use Rattle.std.proofs.Common.{map, pos}
use Rattle.jxlm_encode_tokens.specs.Inner.Walks.{AreLeafTokens}
use Rattle.jxlm_encode_tokens.proofs.leaf.zero_row.Given as goal

abbrev pub invariant-loop-x : goal.invariant-loop-x
invariant-loop-x g l = AreLeafTokens g.T.TokenForm.form g.S.Sealed.width (λ x. l.leaf) (λ x. pos 0) (map g.S.Sealed.to_int l.row) l.x l.out
