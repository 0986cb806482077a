use Rattle.std.proofs.Common.{◌≡◌, ◌++◌, ◌-◌, drop, length}
use Rattle.std.specs.List.{flat_map}
use Rattle.jxlm_bit_writer.specs.Written.{words_back}
use Rattle.jxl_coding_stream_write.proofs.back.put_blocks.Given as goal

abbrev pub invariant-loop-i : goal.invariant-loop-i
invariant-loop-i l = l.bits ≡ l.fn.bits ++ words_back (flat_map (λ x. x) (drop (length l.blocks - l.i) l.blocks))
