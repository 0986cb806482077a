use Rattle.std.proofs.Common.{◌≡◌, take}
use Rattle.std.specs.List.{fold}
use Rattle.jxlbench.specs.Checksum.{with_byte}
use Rattle.jxlbench.proofs.checksum.checksum_of_bytes.Given as goal

abbrev pub invariant-loop-byte : goal.invariant-loop-byte
invariant-loop-byte l = l.sum ≡ fold with_byte l.initial.sum (take l.byte-index l.bytes)
