use Rattle.std.proofs.Common.{arith}
use Rattle.std.proofs.lemmas.Nat.{one_shl}
use Rattle.jxlm_bits.proofs.bits.Bitstream.read_bits.Goals as goal

pub returns-clause-ok : goal.returns-clause-ok
returns-clause-ok c =
    (omega arith, rw (one_shl c.args.n 64 (omega arith)) (c.word_at.ensures c.args.self.now.bit c.args.n (omega arith)), omega arith)
