use Rattle.std.proofs.Common.{◌≡◌, length}
use Rattle.jxlm_lanes.specs.Pairs.{number_at, before_in}
use Rattle.jxlm_kernels.proofs.RowLoop.{RowSoFar}
use Rattle.jxlm_kernels.proofs.lines.unsqueeze_row.Given as goal

abbrev pub invariant-loop-k : goal.invariant-loop-k
invariant-loop-k g l = record {
  before : g.S.Pairs.to_int l.before ≡ before_in g.S.Pairs.width (length l.coded) (number_at g.S.Pairs.to_int l.coded) l.k;
  so_far : RowSoFar g.S.Pairs.to_int g.S.Pairs.width (length l.coded) (number_at g.S.Pairs.to_int l.coded) l.row l.k;
}
