use Rattle.std.proofs.Common.{arith, ◌+◌, ◌≡◌, refl}
use Rattle.std.proofs.lemmas.Nat.{one_shl}
use Rattle.jxlm_bits.specs.Bits.{bytes_of, position_of}
use Rattle.jxlm_plain.proofs.RunsAhead.{next_ahead}
use Rattle.jxlm_plain.proofs.runs.token_ahead.Goals as goal

pub returns-clause-gives : goal.returns-clause-gives
returns-clause-gives c =
    let p = position_of c.args.bits.now in
    let none = c.requires.none in
    let place : p + (c.args.before.at + c.select_unpredictable-3.result) ≡ p + c.args.before.at + c.select_unpredictable-3.result = omega arith in
    rw (c.from.ensures, place, c.select_unpredictable.ensures, c.select_unpredictable-2.ensures, c.select_unpredictable-3.ensures, one_shl c.args.width 64 (omega arith)) (
    next_ahead (bytes_of c.args.bits.now) c.args.width (p + c.args.before.at) c.ahead-word.result c.requires.room c.ahead-word.ensures c.requires.narrow c.args.before.last c.args.before.left (omega (arith, none)) _ refl
    )
