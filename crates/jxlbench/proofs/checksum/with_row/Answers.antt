use Rattle.std.proofs.Common.{rules, ◌∙◌, to_z, of_z}
use Rattle.std.specs.Int.{w32}
use Rattle.std.proofs.lemmas.Int.{to_z-of_z}
use Rattle.jxlbench.proofs.Sums.{row_more}
use Rattle.jxlbench.proofs.checksum.with_row.Goals as goal

pub loop-sample-preserved : goal.loop-sample-preserved
loop-sample-preserved g c =
    let passed = to_z-of_z w32 c.to_i32.result (search rules) in
    row_more g.S.Sealed.to_int _ c.loop-sample.sum c.with_sample-sum.result c.args.row.now c.loop-sample.sample-index c.sample-item.result (to_z w32 (of_z w32 c.to_i32.result)) c.loop-sample-test.true
    c.sample-item.is (passed ∙ c.to_i32.ensures.value) c.loop-sample.invariant c.with_sample-sum.ensures
