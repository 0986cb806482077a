use Rattle.std.proofs.Common.{◌≡◌, ◌+◌, map, length}
use Rattle.jxlm_samples.specs.Inner.LeafRows.{IsLeft, value_below}
use Rattle.jxlm_samples.specs.Inner.Rows.{MakesCells}
use Rattle.jxlm_samples.proofs.one_leaf.leaf_samples.Given as goal

abbrev pub invariant-loop-k : goal.invariant-loop-k
invariant-loop-k g l =
    let to_int = g.S.Sealed.to_int in
    record {
      len : length l.row ≡ length l.fn.row;
      made : MakesCells (value_below to_int g.S.Sealed.width l.leaf l.above) (map to_int l.fn.row) (map to_int l.row) l.from l.tokens l.k;
      left : IsLeft (map to_int l.above.one.now) (map to_int l.row) (l.from + l.k) l.left;
    }
