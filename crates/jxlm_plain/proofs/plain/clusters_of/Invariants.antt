use Rattle.std.proofs.Common.{◌≡◌, ◌<◌, ◌-◌, All}
use Rattle.jxlm_bits.specs.Bits.{bytes_of, position_of}
use Rattle.jxlm_plain.specs.Plain.{cluster_at, items_at}
use Rattle.jxlm_plain.proofs.ItemLoop.{with_front}
use Rattle.jxlm_plain.proofs.plain.clusters_of.Given as goal

abbrev pub invariant-loop : goal.invariant-loop
invariant-loop l = record {
  bytes : bytes_of l.bits ≡ bytes_of l.fn.bits;
  below : All (λ c. c < l.count) l.clusters.items;
  read : with_front l.clusters.items (items_at (cluster_at (bytes_of l.fn.bits) l.count) (l.contexts - l.counter) (position_of l.bits))
      ≡ items_at (cluster_at (bytes_of l.fn.bits) l.count) l.contexts (position_of l.fn.bits);
}
