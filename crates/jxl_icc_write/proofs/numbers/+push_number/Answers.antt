use Rattle.std.proofs.Common.{rules, arith}
use Rattle.jxl_icc_write.proofs.NumberBytes.{pushed_one, pushed_more}
use Rattle.jxl_icc_write.proofs.numbers.+push_number.Goals as goal

pub returns-then-value-lt128 : goal.returns-then-value-lt128
returns-then-value-lt128 t c = pushed_one c.args.out.now.items c.push.new.self.items c.args.more c.args.value (search rules) c.if-value-lt128.true

pub returns : goal.returns
returns t c = pushed_more c.args.out.now.items c.push-2.new.self.items c.push_number.new.out.items c.args.more c.args.value (search rules) c.in_ok-push_number.ensures (omega arith) c.requires.fits
