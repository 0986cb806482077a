use Rattle.std.proofs.Common.{◌-◌, arith}
use Rattle.jxl_coding_stream_write.proofs.Rests.{below_power}
use Rattle.jxl_coding_stream_write.proofs.cluster.base_of.Goals as goal

pub overflow_sub-result-2 : goal.overflow_sub-result-2
overflow_sub-result-2 c = let b = below_power (c.args.config.now.split_exponent - c.args.config.now.msb_in_token) in let e = c.power.ensures in omega (arith, b, e)

pub returns : goal.returns
returns c = let b = below_power (c.args.config.now.split_exponent - c.args.config.now.msb_in_token) in let e = c.power.ensures in omega (arith, b, e)
