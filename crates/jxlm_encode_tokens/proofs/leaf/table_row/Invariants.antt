use Rattle.std.proofs.Common.{◌≡◌, ◌==◌, not, map}
use Rattle.jxlm_tree.specs.ClusterTables.{table_leaf}
use Rattle.jxlm_samples.specs.RowNeighbours.{gradient_in, north_west_in, property_9_in, west_in}
use Rattle.jxlm_encode_tokens.specs.Inner.Walks.{AreLeafTokens}
use Rattle.jxlm_encode_tokens.proofs.leaf.table_row.Given as goal

abbrev pub invariant-loop-x : goal.invariant-loop-x
invariant-loop-x g l =
    let to_int = g.S.Sealed.to_int in
    record {
      tokens : AreLeafTokens g.T.TokenForm.form g.S.Sealed.width (λ x. table_leaf l.table (property_9_in (map to_int l.above) (map to_int l.row) (not (g.row.CLAMPED == 0)) x)) (gradient_in (map to_int l.above) (map to_int l.row)) (map to_int l.row) l.x l.out;
      w_is : to_int l.w ≡ west_in (map to_int l.above) (map to_int l.row) l.x;
      nw_is : to_int l.nw ≡ north_west_in (map to_int l.above) (map to_int l.row) l.x;
    }
