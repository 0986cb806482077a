use Rattle.std.proofs.Common.{◌≡◌, ◌-◌, length}
use Rattle.std.specs.List.{All}
use Rattle.jxlm_bits.specs.Bits.{bytes_of, position_of}
use Rattle.jxlm_bits.specs.Grammar.{repeated}
use Rattle.jxlm_bits.proofs.RepeatedLoop.{with_front}
use Rattle.jxlm_transform.specs.Transforms.{squeeze_params, IsSqueezeParams}
use Rattle.jxlm_transform.proofs.transform.read_steps.Given as goal

abbrev pub invariant-loop : goal.invariant-loop
invariant-loop l = record {
  bytes : bytes_of l.bits ≡ bytes_of l.fn.bits;
  count : length l.steps.items ≡ l.counter;
  each : All IsSqueezeParams l.steps.items;
  read : with_front l.steps.items ((repeated (l.count - l.counter) squeeze_params).read (bytes_of l.fn.bits) (position_of l.bits))
      ≡ (repeated l.count squeeze_params).read (bytes_of l.fn.bits) (position_of l.fn.bits);
}
