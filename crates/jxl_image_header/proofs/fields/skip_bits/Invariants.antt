use Rattle.std.proofs.Common.{◌≡◌, ◌+◌}
use Rattle.jxlm_bits.specs.Bits.{bytes_of, position_of}
use Rattle.jxl_image_header.proofs.fields.skip_bits.Given as goal

abbrev pub invariant-loop-left : goal.invariant-loop-left
invariant-loop-left l = record {
  bytes : bytes_of l.after ≡ bytes_of l.fn.bits;
  position : position_of l.after + l.left ≡ position_of l.fn.bits + l.fn.count;
}

abbrev pub decreases-loop-left : goal.decreases-loop-left
decreases-loop-left l = l.left
