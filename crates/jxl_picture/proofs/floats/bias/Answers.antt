use Rattle.std.proofs.Common.{◌<◌, ◌-◌, arith}
use Rattle.std.proofs.lemmas.Nat.{one_shl}
use Rattle.jxl_picture.proofs.Singles.{bias_less}
use Rattle.jxl_picture.proofs.floats.bias.Goals as goal

pub returns-clause-less : goal.returns-clause-less
returns-clause-less c = λ short.
    let few : c.args.exp_bits - 1 < 32 = omega (arith, short) in
    let b = bias_less c.args.exp_bits short in
    let e = one_shl (c.args.exp_bits - 1) 32 few in
    omega (arith, b, e)
