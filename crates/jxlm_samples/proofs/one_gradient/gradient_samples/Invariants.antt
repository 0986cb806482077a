use Rattle.std.proofs.Common.{◌≡◌, ◌+◌, map, length}
use Rattle.jxlm_ma_tree.specs.declared.leaf.Leaf.{Leaf}
use Rattle.jxlm_samples.specs.Coded.{sample_of}
use Rattle.jxlm_samples.specs.Inner.Paths.{AreLeft, IsPlain}
use Rattle.jxlm_samples.specs.Inner.Rows.{MakesCells}
use Rattle.jxlm_samples.proofs.one_gradient.gradient_samples.Given as goal
use Rattle.jxlm_samples.specs.RowNeighbours.{gradient_in}

abbrev pub invariant-loop-k : goal.invariant-loop-k
invariant-loop-k g l =
    let to_int = g.S.Sealed.to_int in
    record {
      len : length l.row ≡ length l.fn.row;
      made : (leaf : Leaf) → IsPlain leaf → MakesCells (λ before token. sample_of g.S.Sealed.width leaf (gradient_in (map to_int l.above) before (length before)) token) (map to_int l.fn.row) (map to_int l.row) l.from l.tokens l.k;
      left : AreLeft to_int l.above l.row (l.from + l.k) l.w l.nw;
    }
