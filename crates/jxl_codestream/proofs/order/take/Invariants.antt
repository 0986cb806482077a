use Rattle.std.proofs.Common.{◌≡◌, ℕ, ◌/◌, ◌^◌, List, length, false}
use Rattle.jxl_codestream.specs.Inner.Free.{is_taken}
use Rattle.jxl_codestream.specs.Inner.Counts.{IsCounted, IsPartly}
use Rattle.jxl_codestream.proofs.order.take.Given as goal

abbrev pub invariant-loop : goal.invariant-loop
invariant-loop l = record {
  nodes : length l.counts ≡ length l.fn.counts;
  first : l.first ≡ 2 ^ l.levels / 2 ^ l.counter;
  place : l.place ≡ l.number / 2 ^ l.counter;
  partly : (taken : List ℕ) → IsCounted l.fn.counts l.levels taken → is_taken taken l.number ≡ false → IsPartly l.counts l.levels taken l.number l.counter;
}
