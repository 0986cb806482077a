use Rattle.std.proofs.Common.{◌≡◌, ◌<◌, sym, ◌∙◌, arith}
use Rattle.jxlm_bits.specs.Bits.{bytes_of, position_of}
use Rattle.jxlm_plain.specs.Inner.GammaReads.{next_at}
use Rattle.jxlm_plain.proofs.GammaBits.{many_are, few_found}
use Rattle.jxlm_plain.proofs.gamma.zeros.Goals as goal

pub returns-then-next-eq0-clause-gives : goal.returns-then-next-eq0-clause-gives
returns-then-next-eq0-clause-gives c =
    let none : next_at (bytes_of c.args.bits.now) (position_of c.args.bits.now) ≡ 0 = sym c.next_bits-next.ensures ∙ c.if-next-eq0.true in
    rw (many_are (bytes_of c.args.bits.now) (position_of c.args.bits.now) none) c.many_zeros.ensures.gives

pub returns-else-next-eq0-clause-gives : goal.returns-else-next-eq0-clause-gives
returns-else-next-eq0-clause-gives c =
    let some : 0 < next_at (bytes_of c.args.bits.now) (position_of c.args.bits.now) = omega arith in
    rw (few_found (bytes_of c.args.bits.now) (position_of c.args.bits.now) some, ← c.next_bits-next.ensures) c.few_zeros.ensures.gives
