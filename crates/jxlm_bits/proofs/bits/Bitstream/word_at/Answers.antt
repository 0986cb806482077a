use Rattle.std.proofs.Common.{rules}
use Rattle.jxlm_bits.proofs.BitsLemmas.{Copies, word_part}
use Rattle.jxlm_bits.proofs.bits.Bitstream.word_at.Goals as goal

pub returns : goal.returns
returns c = λ b n h.
    let copied : Copies c.eight_at.result c.args.bytes.now c.args.i 8 = record { same = c.eight_at.ensures; small = λ j. search rules } in
    rw (c.from_le_bytes.ensures) (word_part c.eight_at.result c.args.bytes.now c.args.i b n copied h)
