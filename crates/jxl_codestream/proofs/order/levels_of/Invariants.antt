use Rattle.std.proofs.Common.{◌≡◌, ◌^◌, ◌≤◌, ◌⊎◌}
use Rattle.jxl_codestream.proofs.order.levels_of.Given as goal

abbrev pub invariant-loop : goal.invariant-loop
invariant-loop l = record {
  most : l.levels ≤ l.counter;
  enough : (l.count ≤ 2 ^ l.levels) ⊎ (l.levels ≡ l.counter);
}
