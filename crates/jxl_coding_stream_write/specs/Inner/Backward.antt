-- Bits that were written from the last to the first.
use Rattle.std.specs.Prelude.{ℕ, List, ◌++◌}
use Rattle.jxlm_bit_writer.specs.Written.{digits, words_back}
use Rattle.jxl_coding_stream_write.specs.declared.first_bits.FirstBits.{FirstBits}

-- the first bits, and those of the words
abbrev pub bits_back : FirstBits → List ℕ → List ℕ
bits_back first words = digits first.count first.value ++ words_back words
