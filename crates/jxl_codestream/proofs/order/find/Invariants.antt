use Rattle.std.proofs.Common.{◌≡◌, ℕ, suc, ◌+◌, ◌*◌, ◌^◌, ◌<◌, List}
use Rattle.jxl_codestream.specs.Inner.Free.{free_below}
use Rattle.jxl_codestream.specs.Inner.Counts.{IsCounted}
use Rattle.jxl_codestream.proofs.order.find.Given as goal

abbrev pub invariant-loop : goal.invariant-loop
invariant-loop l = record {
  first : l.first ≡ 2 ^ l.counter;
  within : l.place < 2 ^ l.counter;
  found : (taken : List ℕ) (h : ℕ) → l.counter + h ≡ l.levels → IsCounted l.counts l.levels taken → l.digit < free_below taken (2 ^ l.levels) →
      (free_below taken (l.place * 2 ^ h) + l.rest ≡ l.digit) × (l.digit < free_below taken (suc l.place * 2 ^ h));
}
