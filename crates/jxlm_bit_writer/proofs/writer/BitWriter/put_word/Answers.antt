use Rattle.std.proofs.Common.{◌++◌, ap, ◌∙◌}
use Rattle.jxlm_bit_writer.proofs.HeldBits.{above_fits, put_whole}
use Rattle.jxlm_bit_writer.proofs.writer.BitWriter.put_word.Goals as goal

pub invariant_of-self-2 : goal.invariant_of-self-2
invariant_of-self-2 c = (c.self.invariant.0, above_fits c.self.inside.held c.self.inside.count c.args.word c.self.invariant.1 c.self.invariant.0 c.ranges.word.fits)

pub returns : goal.returns
returns c =
    let new = c.in_ok-extend_from_slice.ensures.items ∙ ap (λ xs. c.self.inside.bytes.items ++ xs) c.to_le_bytes.ensures in
    rw (← c.self.view_is) (put_whole c.self.inside.held c.self.inside.count c.args.word c.self.invariant.1 c.self.invariant.0 c.self.inside.bytes.items c.extend_from_slice.new.self.items new)
