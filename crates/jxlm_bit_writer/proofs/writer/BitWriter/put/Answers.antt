use Rattle.std.proofs.Common.{◌++◌, ap, ◌∙◌, arith}
use Rattle.jxlm_bit_writer.specs.Written.{digits, bits_of}
use Rattle.jxlm_bit_writer.proofs.HeldBits.{sum_fits, rest_fits, put_held, put_word}
use Rattle.jxlm_bit_writer.proofs.writer.BitWriter.put.Goals as goal

pub invariant_of-self : goal.invariant_of-self
invariant_of-self c = (c.if-count-lt32.true, sum_fits c.self.inside.held c.self.inside.count c.args.n c.from.result c.self.invariant.1 c.self.invariant.0 c.requires)

pub invariant_of-self-else-count-lt32 : goal.invariant_of-self-else-count-lt32
invariant_of-self-else-count-lt32 c =
    let few = c.self.invariant.0 in
    let full = c.if-count-lt32.false in
    let most = c.requires in (
      omega (arith, few, full, most),
      rest_fits c.self.inside.held c.self.inside.count c.args.n c.from.result c.self.invariant.1 c.self.invariant.0 c.requires (omega (arith, full)),
    )

pub returns-then-count-lt32 : goal.returns-then-count-lt32
returns-then-count-lt32 c = rw (← c.self.view_is) (
    put_held c.self.inside.bytes.items c.self.inside.held c.self.inside.count c.args.n c.from.result c.self.invariant.1 c.self.invariant.0 c.requires
    ∙ ap (λ v. (bits_of c.self.inside.bytes.items ++ digits c.self.inside.count c.self.inside.held) ++ digits c.args.n v) c.from.ensures
    )

pub returns-in_ok-extend_from_slice : goal.returns-in_ok-extend_from_slice
returns-in_ok-extend_from_slice c =
    let full = c.if-count-lt32.false in
    let new = c.in_ok-extend_from_slice.ensures.items ∙ ap (λ xs. c.self.inside.bytes.items ++ xs) c.to_le_bytes.ensures in
    rw (← c.self.view_is) (
    put_word c.self.inside.bytes.items c.extend_from_slice.new.self.items c.self.inside.held c.self.inside.count c.args.n c.from.result c.self.invariant.1 c.self.invariant.0 c.requires (omega (arith, full)) new
    ∙ ap (λ v. (bits_of c.self.inside.bytes.items ++ digits c.self.inside.count c.self.inside.held) ++ digits c.args.n v) c.from.ensures
    )
