use Rattle.std.proofs.Common.{arith}
use Rattle.jxl_coding_stream_write.proofs.Rests.{known_below, upper_spelled, width_few, width_fits, width_symbol}
use Rattle.jxl_coding_stream_write.proofs.cluster.ClusterWriter.upper_symbol.Goals as goal

pub overflow_sub-width : goal.overflow_sub-width
overflow_sub-width c =
    let u = c.args.self.now.upper_is c.args.token c.ranges.token.fits c.requires in
    let k = known_below c.args.self.now.config c.args.self.now.rule c.log_of-n.result c.args.token u.1 c.log_of-n.ensures.most in
    omega (arith, k)

pub overflow_add-symbol : goal.overflow_add-symbol
overflow_add-symbol c =
    let u = c.args.self.now.upper_is c.args.token c.ranges.token.fits c.requires in
    let s = width_few c.args.self.now.config c.args.self.now.rule c.log_of-n.result c.args.token c.args.self.now.base c.log_of-n.ensures.few c.log_of-n.ensures.least c.log_of-n.ensures.most u.1 c.args.self.now.base_is u.0 in
    omega (arith, s)

pub overflow_mul-symbol : goal.overflow_mul-symbol
overflow_mul-symbol c =
    let u = c.args.self.now.upper_is c.args.token c.ranges.token.fits c.requires in
    let s = width_fits c.args.self.now.config c.args.self.now.rule c.log_of-n.result c.args.token c.args.self.now.base c.log_of-n.ensures.few c.log_of-n.ensures.least c.log_of-n.ensures.most u.1 c.args.self.now.base_is u.0 c.args.self.now.high c.power-wide.result c.args.self.now.high_is c.power-wide.ensures in
    omega (arith, s)

pub overflow_add-symbol-2 : goal.overflow_add-symbol-2
overflow_add-symbol-2 c =
    let u = c.args.self.now.upper_is c.args.token c.ranges.token.fits c.requires in
    let s = width_fits c.args.self.now.config c.args.self.now.rule c.log_of-n.result c.args.token c.args.self.now.base c.log_of-n.ensures.few c.log_of-n.ensures.least c.log_of-n.ensures.most u.1 c.args.self.now.base_is u.0 c.args.self.now.high c.power-wide.result c.args.self.now.high_is c.power-wide.ensures in
    omega (arith, s)

pub returns-clause-several : goal.returns-clause-several
returns-clause-several c = (c.args.self.now.upper_is c.args.token c.ranges.token.fits c.requires).2

pub returns-clause-symbol : goal.returns-clause-symbol
returns-clause-symbol c =
    let u = c.args.self.now.upper_is c.args.token c.ranges.token.fits c.requires in
    width_symbol c.args.self.now.config c.args.self.now.rule c.log_of-n.result c.args.token c.args.self.now.base c.log_of-n.ensures.few c.log_of-n.ensures.least c.log_of-n.ensures.most u.1 c.args.self.now.base_is u.0 c.args.self.now.high c.power-wide.result c.args.self.now.high_is c.power-wide.ensures c.log_of-n.ensures.log

pub returns-clause-read : goal.returns-clause-read
returns-clause-read c =
    let u = c.args.self.now.upper_is c.args.token c.ranges.token.fits c.requires in
    upper_spelled c.args.self.now.config c.args.self.now.rule c.log_of-n.result c.args.token c.log_of-n.ensures.few c.log_of-n.ensures.least c.log_of-n.ensures.most u.1 c.log_of-n.ensures.log u.0
