use Rattle.std.proofs.Common.{◌≡◌, ℕ, suc, ℤ, ◌+◌, ◌-◌, ◌/◌, FitsSigned, length, sym, ap, ◌∙◌, subst, arith}
use Rattle.std.specs.Int.{Width}
use Rattle.jxlm_lanes.specs.Pairs.{number_at, before_in}
use Rattle.jxlm_lanes.proofs.NumberAt.{number_read}
use Rattle.jxlm_kernels.proofs.RowLoop.{RowSoFar, row_more, row_even, row_odd}
use Rattle.jxlm_kernels.proofs.lines.unsqueeze_row.Goals as goal

pub loop-k-preserved : goal.loop-k-preserved
loop-k-preserved g c =
    let n : ℕ = length c.args.coded.now in
    let code : ℕ → ℤ = number_at g.S.Pairs.to_int c.args.coded.now in
    let e : suc c.loop-k.k ≡ c.loop-k.k + 1 = omega arith in
    let len : length c.loop-k.row ≡ n = omega (arith, c.requires, c.loop-k.auto.row) in
    record {
      before = c.pair_at-first.ensures.second ∙ ap (before_in g.S.Pairs.width n code) e;
      so_far = row_more g.S.Pairs.to_int g.S.Pairs.width n code c.loop-k.row c.loop-k.k c.pair_at-first.result.0 c.pair_at-first.result.1 len (omega arith)
          c.pair_at-first.ensures.first c.pair_at-first.ensures.second c.pair_at-first.ensures.average_fits c.pair_at-first.ensures.residual_fits c.loop-k.invariant.so_far;
    }

pub returns-then-coded-eq1-clause-undone : goal.returns-then-coded-eq1-clause-undone
returns-then-coded-eq1-clause-undone g c =
    let f = g.S.Pairs.to_int in
    let w : Width = g.S.Pairs.width in
    let n : ℕ = length c.args.coded.now in
    let code : ℕ → ℤ = number_at f c.args.coded.now in
    let e : c.loop-k.k ≡ n / 2 = omega arith in
    let len : length c.loop-k.row ≡ n = omega (arith, c.requires, c.loop-k.auto.row) in
    let read : code (n / 2) ≡ f c.index-coded-coded.result = number_read f c.args.coded.now (n / 2) c.index-coded-coded.result (omega arith) c.index-coded-coded.is in
    let so_far = subst (RowSoFar f w n code c.loop-k.row) e c.loop-k.invariant.so_far in
    let same = ap f c.single-last.ensures.same in
    (row_odd f w n code c.loop-k.row c.single-last.result (n - 1) (omega arith) len (omega arith) (same ∙ sym read) (subst (FitsSigned w) (sym same) c.single-last.ensures.fits) so_far).0

pub returns-then-coded-eq1-clause-samples : goal.returns-then-coded-eq1-clause-samples
returns-then-coded-eq1-clause-samples g c =
    let f = g.S.Pairs.to_int in
    let w : Width = g.S.Pairs.width in
    let n : ℕ = length c.args.coded.now in
    let code : ℕ → ℤ = number_at f c.args.coded.now in
    let e : c.loop-k.k ≡ n / 2 = omega arith in
    let len : length c.loop-k.row ≡ n = omega (arith, c.requires, c.loop-k.auto.row) in
    let read : code (n / 2) ≡ f c.index-coded-coded.result = number_read f c.args.coded.now (n / 2) c.index-coded-coded.result (omega arith) c.index-coded-coded.is in
    let so_far = subst (RowSoFar f w n code c.loop-k.row) e c.loop-k.invariant.so_far in
    let same = ap f c.single-last.ensures.same in
    (row_odd f w n code c.loop-k.row c.single-last.result (n - 1) (omega arith) len (omega arith) (same ∙ sym read) (subst (FitsSigned w) (sym same) c.single-last.ensures.fits) so_far).1

pub returns-else-coded-eq1-clause-samples : goal.returns-else-coded-eq1-clause-samples
returns-else-coded-eq1-clause-samples g c =
    let f = g.S.Pairs.to_int in
    let w : Width = g.S.Pairs.width in
    let n : ℕ = length c.args.coded.now in
    let code : ℕ → ℤ = number_at f c.args.coded.now in
    let e : c.loop-k.k ≡ n / 2 = omega arith in
    (row_even f w n code c.loop-k.row (omega arith) (subst (RowSoFar f w n code c.loop-k.row) e c.loop-k.invariant.so_far)).1
