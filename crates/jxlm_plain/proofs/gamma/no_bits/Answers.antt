use Rattle.std.proofs.Common.{◌≡◌, ◌<◌, sym, ◌∙◌, arith}
use Rattle.jxlm_bits.specs.Bits.{bytes_of, position_of}
use Rattle.jxlm_plain.specs.Inner.GammaReads.{next_at}
use Rattle.jxlm_plain.proofs.GammaBits.{low_some, low_none, low_zero}
use Rattle.jxlm_plain.proofs.gamma.no_bits.Goals as goal

pub returns-then-next_bits-ne0-clause-gives : goal.returns-then-next_bits-ne0-clause-gives
returns-then-next_bits-ne0-clause-gives c =
    let some : 0 < next_at (bytes_of c.args.bits.now) (position_of c.args.bits.now) = omega arith in
    low_some (bytes_of c.args.bits.now) (position_of c.args.bits.now) some

pub returns-clause-gives : goal.returns-clause-gives
returns-clause-gives c =
    let none : next_at (bytes_of c.args.bits.now) (position_of c.args.bits.now) ≡ 0 = sym c.next_bits.ensures ∙ c.if-next_bits-ne0.false in
    rw (low_none (bytes_of c.args.bits.now) (position_of c.args.bits.now) none) c.number.ensures.gives

pub returns-clause-ok : goal.returns-clause-ok
returns-clause-ok c =
    let none : next_at (bytes_of c.args.bits.now) (position_of c.args.bits.now) ≡ 0 = sym c.next_bits.ensures ∙ c.if-next_bits-ne0.false in
    low_zero (bytes_of c.args.bits.now) (position_of c.args.bits.now) _ _ none c.number.ensures.gives
