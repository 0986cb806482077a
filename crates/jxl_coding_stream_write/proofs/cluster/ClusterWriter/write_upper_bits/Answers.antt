use Rattle.std.proofs.Common.{◌-◌, ◌%◌, ◌^◌, ◌++◌, ◌∙◌, ap, arith}
use Rattle.jxlm_bit_writer.specs.Written.{digits}
use Rattle.jxl_coding_stream_write.specs.Inner.Backward.{bits_back}
use Rattle.jxl_coding_stream_write.proofs.Rests.{known_below, upper_spelled}
use Rattle.jxl_coding_stream_write.proofs.cluster.ClusterWriter.write_upper_bits.Goals as goal

pub overflow_sub-width : goal.overflow_sub-width
overflow_sub-width c =
    let u = c.args.self.now.only_upper_is c.args.token c.ranges.token.fits c.requires in
    let k = known_below c.args.self.now.config c.args.self.now.rule c.log_of-n.result c.args.token u.1 c.log_of-n.ensures.most in
    omega (arith, k)

pub returns-clause-alone : goal.returns-clause-alone
returns-clause-alone c = (c.args.self.now.only_upper_is c.args.token c.ranges.token.fits c.requires).2

pub returns-clause-bits : goal.returns-clause-bits
returns-clause-bits c =
    let u = c.args.self.now.only_upper_is c.args.token c.ranges.token.fits c.requires in (
      _,
      _,
      upper_spelled c.args.self.now.config c.args.self.now.rule c.log_of-n.result c.args.token c.log_of-n.ensures.few c.log_of-n.ensures.least c.log_of-n.ensures.most u.1 c.log_of-n.ensures.log u.0,
      c.in_ok-first.ensures
          ∙ ap (λ x. digits (c.log_of-n.result - c.args.self.now.config.msb_in_token) (x % 2 ^ (c.log_of-n.result - c.args.self.now.config.msb_in_token)) ++ bits_back c.args.first c.args.words.now.items) c.from.ensures,
    )
