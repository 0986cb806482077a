use Rattle.std.proofs.Common.{arith}
use Rattle.std.proofs.lemmas.Nat.{one_shl}
use Rattle.jxlm_bits.proofs.bits.Bitstream.read_near_end.Goals as goal

pub returns-clause-ok : goal.returns-clause-ok
returns-clause-ok c =
    (omega arith, rw (one_shl c.args.n 64 (omega arith)) (c.last_word.ensures c.args.self.now.bit c.args.n (omega arith)), omega arith)
