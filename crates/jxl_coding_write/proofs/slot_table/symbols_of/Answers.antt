use Rattle.std.proofs.Common.{ℕ, ◌≤◌, ◌∙◌, sym, subst, arith}
use Rattle.std.proofs.lemmas.List.{get_or_default}
use Rattle.std.proofs.lemmas.List.Sums.{sum_by_more, sum_by_more_le}
use Rattle.jxl_coding_write.proofs.SymbolLists.{counts_pushed, starts_pushed, counts_all}
use Rattle.jxl_coding_write.proofs.SumsBefore.{each_at_most}
use Rattle.jxl_coding_write.proofs.slot_table.symbols_of.Goals as goal

pub slots_after-requires : goal.slots_after-requires
slots_after-requires c =
    let m = each_at_most c.args.counts.now c.loop-count.count-index in
    subst (λ (n : ℕ). n ≤ 4096) (sym (get_or_default c.args.counts.now c.loop-count.count-index _ 0 c.loop-count-test.true)) (omega (arith, m, c.requires))

pub overflow_add-before : goal.overflow_add-before
overflow_add-before c =
    let m = sum_by_more_le (λ (x : ℕ). x) c.args.counts.now c.loop-count.count-index 0 c.loop-count-test.true in
    let t = c.loop-count.invariant.total in
    omega (arith, m, t, c.requires)

pub loop-count-preserved : goal.loop-count-preserved
loop-count-preserved c = record {
  counts =
      counts_pushed c.args.counts.now c.loop-count.symbols.items c.push.new.self.items c.slots_after.result c.loop-count.count-index c.loop-count-test.true c.in_ok-push.ensures.items c.loop-count.invariant.counts
      (c.slots_after.ensures.count ∙ get_or_default c.args.counts.now c.loop-count.count-index _ 0 c.loop-count-test.true);
  each =
      starts_pushed c.args.counts.now c.loop-count.symbols.items c.push.new.self.items c.slots_after.result c.loop-count.count-index c.loop-count-test.true c.in_ok-push.ensures.items c.loop-count.invariant.counts
      (c.slots_after.ensures.start ∙ c.loop-count.invariant.total) c.loop-count.invariant.each;
  total =
      let m = sum_by_more (λ (x : ℕ). x) c.args.counts.now c.loop-count.count-index 0 c.loop-count-test.true in
      let t = c.loop-count.invariant.total in
      omega (arith, m, t);
}

pub returns-clause-counts : goal.returns-clause-counts
returns-clause-counts c = counts_all c.args.counts.now c.loop-count.symbols.items c.loop-count.count-index c.loop-count-test.false c.loop-count.invariant.counts

pub returns-clause-starts : goal.returns-clause-starts
returns-clause-starts c = λ k lt. c.loop-count.invariant.each k (omega (arith, lt, c.loop-count-test.false))
