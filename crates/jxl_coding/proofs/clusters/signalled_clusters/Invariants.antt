use Rattle.jxlm_bits.specs.Bits.{bytes_of, position_of}
use Rattle.jxl_coding_codes.specs.Reading.{steps}
use Rattle.std.proofs.Common.{◌≡◌, ◌-◌, []}
use Rattle.std.specs.Prelude.{IsSome}
use Rattle.jxl_coding.specs.Clusters.{cluster_step}
use Rattle.jxl_coding.specs.Inner.Coded.{listed}
use Rattle.jxl_coding.proofs.clusters.signalled_clusters.Given as goal

abbrev pub invariant-loop : goal.invariant-loop
invariant-loop l = record {
  bytes : bytes_of l.bits ≡ bytes_of l.fn.bits;
  window : IsSome l.tables.lz77 → IsSome l.state.window;
  read : steps (cluster_step) (l.n - l.counter) (listed l.tables l.state l.clusters.items) (bytes_of l.fn.bits) (position_of l.bits)
      ≡ steps (cluster_step) l.n (listed l.tables l.fn.state []) (bytes_of l.fn.bits) (position_of l.fn.bits);
}
