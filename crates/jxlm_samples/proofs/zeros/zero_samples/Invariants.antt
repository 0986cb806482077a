use Rattle.std.proofs.Common.{◌≡◌, map, length, pos}
use Rattle.jxlm_samples.specs.Coded.{sample_of}
use Rattle.jxlm_samples.specs.Inner.Rows.{MakesCells}
use Rattle.jxlm_samples.proofs.zeros.zero_samples.Given as goal

abbrev pub invariant-loop-k : goal.invariant-loop-k
invariant-loop-k g l =
    let to_int = g.S.Sealed.to_int in
    record {
      len : length l.row ≡ length l.fn.row;
      made : MakesCells (λ _ token. sample_of g.S.Sealed.width l.leaf (pos 0) token) (map to_int l.fn.row) (map to_int l.row) l.from l.tokens l.k;
    }
