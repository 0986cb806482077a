use Rattle.std.proofs.Common.{◌≡◌, ◌++◌, length}
use Rattle.std.specs.Prelude.{take, map}
use Rattle.std.specs.List.{flat_map}
use Rattle.jxlm_bit_writer.specs.Written.{digits}
use Rattle.jxlm_encode_write.specs.Headers.{transforms_count_bits, transform_bits, transform_of}
use Rattle.jxlm_encode_write.proofs.header.write_header.Given as goal

abbrev pub invariant-loop-transform : goal.invariant-loop-transform
invariant-loop-transform l = l.bits ≡ l.fn.bits ++ (digits 1 0 ++ (digits 1 1 ++ (transforms_count_bits (length l.transforms) ++ flat_map transform_bits (map transform_of (take l.transform-index l.transforms)))))
