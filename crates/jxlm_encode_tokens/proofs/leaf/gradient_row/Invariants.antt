use Rattle.std.proofs.Common.{◌≡◌, map}
use Rattle.jxlm_samples.specs.RowNeighbours.{gradient_in, north_west_in, west_in}
use Rattle.jxlm_encode_tokens.specs.Inner.Walks.{AreLeafTokens}
use Rattle.jxlm_encode_tokens.proofs.leaf.gradient_row.Given as goal

abbrev pub invariant-loop-x : goal.invariant-loop-x
invariant-loop-x g l =
    let to_int = g.S.Sealed.to_int in
    record {
      tokens : AreLeafTokens g.T.TokenForm.form g.S.Sealed.width (λ x. l.leaf) (gradient_in (map to_int l.above) (map to_int l.row)) (map to_int l.row) l.x l.out;
      w_is : to_int l.w ≡ west_in (map to_int l.above) (map to_int l.row) l.x;
      nw_is : to_int l.nw ≡ north_west_in (map to_int l.above) (map to_int l.row) l.x;
    }
