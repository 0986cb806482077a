use Rattle.std.proofs.Common.{rules}
use Rattle.jxlm_bits.proofs.BitsLemmas.{Copies, word_part}
use Rattle.jxlm_bits.proofs.bits.Bitstream.last_word.Goals as goal

pub returns : goal.returns
returns c = λ b n h.
    let s = c.args.self.now in
    let copied : Copies c.last_at.result s.bytes.now s.byte 8 = record { same = c.last_at.ensures; small = λ j. search rules } in
    rw (c.from_le_bytes.ensures) (word_part c.last_at.result s.bytes.now s.byte b n copied h)
