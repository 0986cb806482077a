use Rattle.std.proofs.Common.{◌≡◌, ◌*◌, ◌^◌, length}
use Rattle.jxl_codestream.specs.Inner.Counts.{IsBegun, IsCounted}
use Rattle.jxl_codestream.proofs.order.turns.Given as goal

abbrev pub invariant-loop-i : goal.invariant-loop-i
invariant-loop-i l = record {
  nodes : length l.counts ≡ 2 * 2 ^ l.levels;
  counted : IsCounted l.counts l.levels l.order.items;
  so_many : length l.order.items ≡ l.i;
  begun : IsBegun l.code l.count l.order.items;
}
