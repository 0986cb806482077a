use Rattle.std.proofs.Common.{◌≡◌, ◌-◌, map}
use Rattle.std.specs.List.{All}
use Rattle.jxlm_bits.specs.Bits.{bytes_of, position_of}
use Rattle.jxlm_bits.specs.Grammar.{repeated}
use Rattle.jxlm_bits.proofs.RepeatedLoop.{with_front}
use Rattle.jxlm_transform.specs.Transforms.{IsTransform, KeepsWeights, transform_by, transform_of}
use Rattle.jxlm_header.proofs.header.read_transforms.Given as goal

abbrev pub invariant-loop : goal.invariant-loop
invariant-loop l = record {
  bytes : bytes_of l.bits ≡ bytes_of l.fn.bits;
  each : All IsTransform (map transform_of l.transforms.items);
  weights : All (KeepsWeights l.wp_params) (map transform_of l.transforms.items);
  read : with_front (map transform_of l.transforms.items) ((repeated (l.count - l.counter) (transform_by l.tables l.wp_params)).read (bytes_of l.fn.bits) (position_of l.bits))
      ≡ (repeated l.count (transform_by l.tables l.wp_params)).read (bytes_of l.fn.bits) (position_of l.fn.bits);
}
