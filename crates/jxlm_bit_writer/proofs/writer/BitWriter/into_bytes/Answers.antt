use Rattle.std.proofs.Common.{◌++◌, take, ap, ◌∙◌}
use Rattle.jxlm_bit_writer.proofs.HeldBits.{filled}
use Rattle.jxlm_bit_writer.proofs.writer.BitWriter.into_bytes.Goals as goal

pub returns : goal.returns
returns c =
    let new = c.in_ok-extend_from_slice.ensures.items ∙ ap (λ xs. c.self.inside.bytes.items ++ take c.div_ceil.result xs) c.to_le_bytes-last.ensures in
    rw (← c.self.view_is)
    (filled c.self.inside.bytes.items c.extend_from_slice.new.self.items c.self.inside.held c.self.inside.count c.div_ceil.result c.self.invariant.1 c.self.invariant.0 c.div_ceil.ensures new)
